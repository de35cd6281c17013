use Rattle.std.proofs.Common.{◌≢◌, []}
use Rattle.jd_problem.specs.Problems.{problem_of}
use Rattle.jd_judge.specs.Judging.{IsJudgingAt}
use Rattle.jd_judge.proofs.steps.enter.Given as goal

abbrev pub invariant-places : goal.invariant-places
invariant-places g l = (l.judging.walk.path ≢ []) × IsJudgingAt (problem_of l.problem) (g.C.Claim.holds l.claim) l.judging
