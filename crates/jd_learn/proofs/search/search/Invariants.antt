use Rattle.std.proofs.Common.{◌≤◌, length}
use Rattle.jd_learn.specs.Learning.{IsEnded}
use Rattle.jd_learn.proofs.search.search.Given as goal

abbrev pub invariant-turns : goal.invariant-turns
invariant-turns l = record {
  ended : IsEnded l.clauses l.solver l.conflict;
  few : length l.solver.lines.items ≤ l.budget;
}
