use Rattle.std.proofs.Common.{◌-◌, length}
use Rattle.jd_cones.proofs.Marks.{IsPassed}
use Rattle.jd_cones.proofs.marking.mark_gates.Given as goal

abbrev pub invariant-loop-step : goal.invariant-loop-step
invariant-loop-step l = IsPassed l.inputs l.gates (length l.gates - l.step) l.fn.marks l.marks
