use Rattle.jd_symbolic.specs.Machine.{Stands}
use Rattle.try_symbolic.proofs.gates.of_run.Given as goal

abbrev pub invariant-loop-line : goal.invariant-loop-line
invariant-loop-line l = Stands l.c l.machine
