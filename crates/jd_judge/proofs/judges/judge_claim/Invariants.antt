use Rattle.jd_problem.specs.Problems.{problem_of}
use Rattle.jd_judge.specs.Judging.{IsJudging}
use Rattle.jd_judge.proofs.judges.judge_claim.Given as goal

abbrev pub invariant-places : goal.invariant-places
invariant-places g l = IsJudging (problem_of l.problem) (g.C.Claim.holds l.claim) l.judging
