use Rattle.std.proofs.Common.{◌≡◌}
use Rattle.jd_learn.specs.Learning.{IsBegun}
use Rattle.jd_learn.proofs.search.decide_rest.Given as goal

abbrev pub invariant-loop : goal.invariant-loop
invariant-loop l = record {
  begun : IsBegun l.clauses l.solver l.from;
  lines : l.solver.lines.items ≡ l.fn.solver.lines.items;
}
