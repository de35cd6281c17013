use Rattle.std.proofs.Common.{take}
use Rattle.jd_propagate.specs.Quiet.{IsWithin}
use Rattle.jd_learn.proofs.learning.are_true.Given as goal

abbrev pub invariant-loop-l : goal.invariant-loop-l
invariant-loop-l l = IsWithin (take l.l-index l.literals) l.trail
