use Rattle.jd_prover.specs.Solving.{IsTaken}
use Rattle.jd_prover.proofs.setup.take_units.Given as goal

abbrev pub invariant-loop-at : goal.invariant-loop-at
invariant-loop-at l = IsTaken l.clauses 0 l.solver
