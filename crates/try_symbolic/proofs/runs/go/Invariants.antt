use Rattle.jd_symbolic.specs.Machine.{Stands}
use Rattle.try_symbolic.proofs.runs.go.Given as goal

abbrev pub invariant-loop-line : goal.invariant-loop-line
invariant-loop-line g l = Stands l.c l.machine
