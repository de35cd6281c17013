use Rattle.jd_cones.proofs.Marks.{IsListed}
use Rattle.jd_cones.proofs.marking.mark_literals.Given as goal

abbrev pub invariant-loop-l : goal.invariant-loop-l
invariant-loop-l l = IsListed l.literals l.l-index l.fn.marks l.marks
