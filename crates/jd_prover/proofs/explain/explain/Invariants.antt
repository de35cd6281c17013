use Rattle.std.proofs.Common.{◌≤◌, length}
use Rattle.jd_prover.specs.Solving.{IsExplained, store_of}
use Rattle.jd_prover.proofs.explain.explain.Given as goal

abbrev pub invariant-trail : goal.invariant-trail
invariant-trail l = record {
  explained : IsExplained (store_of l.clauses l.solver.lines.items) l.solver.trail l.solver.decisions.items l.marks.items l.hints.items l.at;
  within : l.at ≤ length l.solver.trail;
}

abbrev pub decreases-trail : goal.decreases-trail
decreases-trail l = l.at
