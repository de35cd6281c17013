use Rattle.std.proofs.Common.{◌≤◌, length}
use Rattle.jd_prover.specs.Searching.{IsNode}
use Rattle.jd_prover.proofs.search.search.Given as goal

abbrev pub invariant-nodes : goal.invariant-nodes
invariant-nodes l = record {
  node : IsNode l.clauses l.inputs l.solver l.conflict;
  few : length l.solver.lines.items ≤ l.budget;
}
