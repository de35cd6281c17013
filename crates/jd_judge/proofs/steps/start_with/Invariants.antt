use Rattle.std.proofs.Common.{◌≡◌, take}
use Rattle.jd_judge.proofs.steps.start_with.Given as goal

abbrev pub invariant-loop-i : goal.invariant-loop-i
invariant-loop-i l = l.free ≡ take l.i l.bits
