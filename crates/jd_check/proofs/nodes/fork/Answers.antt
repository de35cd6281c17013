use Rattle.std.proofs.Common.{refl, ap, ◌∙◌, subst}
use Rattle.jd_books.specs.Paths.{OverAfter}
use Rattle.jd_trees.specs.declared.Node.TheVariants.{Fork}
use Rattle.jd_walk.specs.Walked.{Walked, NextIs}
use Rattle.jd_check.proofs.Progressing.{fork-next, fork-wrong, wrong-next}
use Rattle.jd_check.proofs.nodes.fork.Goals as goal

pub returns-in_ok-answer-in-Ask-clause-next : goal.returns-in_ok-answer-in-Ask-clause-next
returns-in_ok-answer-in-Ask-clause-next g c = λ p nodes open_yet h.
    let next = c.in_ok-next.ensures in
    fork-next p nodes c.args.run.now _ c.next.new.self open_yet h (subst (NextIs c.next.new.self) c.in-Ask.is next.said).asks
    (ap (λ (k : Walked). k.problem) next.walk) (ap (λ (k : Walked). k.path) next.walk) (ap (λ (k : Walked). k.spent) next.walk ∙ next.unspent)
    c.in_ok-answer-in-Ask.ensures.walk refl refl refl refl

pub returns-in_ok-of-in-Done-clause-next : goal.returns-in_ok-of-in-Done-clause-next
returns-in_ok-of-in-Done-clause-next g c = λ p nodes open_yet h.
    let next = c.in_ok-next.ensures in
    let old = c.args.run.now in
    let over = (subst (NextIs c.next.new.self) c.in-Done.is next.said).over in
    wrong-next p nodes Fork _ c.in_ok-of-in-Done.field-0 old.walk.path
    (fork-wrong p nodes old open_yet h
    (subst (λ q. OverAfter q old.walk.path) (ap (λ (k : Walked). k.problem) next.walk ∙ h.problem) (subst (OverAfter c.next.new.self.problem) (ap (λ (k : Walked). k.path) next.walk) over)))
    (c.in_ok-of-in-Done.ensures ∙ c.path.ensures ∙ ap (λ (k : Walked). k.path) next.walk)
