use Rattle.std.proofs.Common.{◌≡◌, map, take}
use Rattle.std.specs.Prelude.{All}
use Rattle.jd_problem.specs.Problems.{problem_of}
use Rattle.jd_pieces.specs.Candidates.{IsCandidate}
use Rattle.jd_short.specs.Shortened.{candidate_of, IsRefusal}
use Rattle.jd_short.proofs.rounds.judge_candidates.Given as goal

abbrev pub invariant-loop-candidate : goal.invariant-loop-candidate
invariant-loop-candidate g l = record {
  stand : All (IsCandidate l.routine) l.found;
  in_order : map candidate_of l.refusals.refusals.items ≡ take l.candidate-index l.found;
  refused : All (IsRefusal (problem_of l.problem) l.routine) l.refusals.refusals.items;
}
