use Rattle.std.proofs.Common.{◌≡◌, false, take}
use Rattle.std.specs.Prelude.{All}
use Rattle.jd_problem.specs.Problems.{problem_of}
use Rattle.jd_start.specs.Starts.{start_data}
use Rattle.jd_short.specs.Differences.{is_difference}
use Rattle.jd_short.proofs.differences.first_difference.Given as goal

abbrev pub invariant-loop-start : goal.invariant-loop-start
invariant-loop-start l = All (λ start. is_difference (problem_of l.problem) (start_data start) ≡ false) (take l.start-index l.starts)
