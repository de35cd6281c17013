use Rattle.std.proofs.Common.{ap, ◌∙◌}
use Rattle.std.specs.Prelude.{not, is_some}
use Rattle.jd_books.specs.Paths.{next_path}
use Rattle.jd_walk.specs.Walked.{Walked, back_from}
use Rattle.jd_check.proofs.Progressing.{ended}
use Rattle.jd_check.proofs.nodes.end.Goals as goal

pub returns-clause-taken : goal.returns-clause-taken
returns-clause-taken g c = λ p nodes kind log h.
    let kept = c.in_ok-keep.ensures in
    ended p nodes kind log c.args.run.now _ c.args.part h (c.back.ensures.walk ∙ ap back_from kept.walk)
    (ap not c.back.ensures.back ∙ ap (λ (w : Walked). not (is_some (next_path w.path))) kept.walk) kept.book kept.bad kept.unrefuted
