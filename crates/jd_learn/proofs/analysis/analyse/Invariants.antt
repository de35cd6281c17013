use Rattle.std.proofs.Common.{◌≤◌, length}
use Rattle.jd_learn.specs.Taught.{IsAnalysed}
use Rattle.jd_learn.proofs.analysis.analyse.Given as goal

abbrev pub invariant-trail : goal.invariant-trail
invariant-trail l = record {
  analysed : IsAnalysed l.clauses l.solver l.analysis l.at;
  within : l.at ≤ length l.solver.trail;
}

abbrev pub decreases-trail : goal.decreases-trail
decreases-trail l = l.at
