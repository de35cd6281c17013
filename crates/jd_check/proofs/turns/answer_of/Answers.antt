use Rattle.std.proofs.Common.{sym, ◌∙◌, subst}
use Rattle.jd_trees.specs.Trees.{preorder}
use Rattle.jd_trees.specs.Events.{events_of}
use Rattle.jd_check.specs.Runs.{IsTakenOf, IsWrongOrNot}
use Rattle.jd_check.proofs.EventByEvent.{wrong-ends, right-ends}
use Rattle.jd_check.proofs.turns.answer_of.Goals as goal

pub returns-in-Some : goal.returns-in-Some
returns-in-Some g c = λ p tree h.
    let old = c.args.going in
    wrong-ends p tree c.in-Some.path (subst (IsWrongOrNot p (events_of (preorder tree)) old.progress old.part) (sym c.into_parts-progress.ensures.shape ∙ c.in-Some.is) h)

pub returns-in-None : goal.returns-in-None
returns-in-None g c = λ p tree h.
    let old = c.args.going in
    c.answer.ensures p tree
    (subst (IsTakenOf p tree) (sym c.into_parts-progress.ensures.progress)
    (right-ends p tree old.progress old.part old.progress.whole
    (subst (IsWrongOrNot p (events_of (preorder tree)) old.progress old.part) (sym c.into_parts-progress.ensures.shape ∙ c.in-None.is) h)))
