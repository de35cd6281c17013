-- The ranges that each problem keeps.
use Rattle.std.proofs.Common.{map, arith}
use Rattle.std.proofs.lemmas.List.{length_push, length-map}
use Rattle.std.specs.Prelude.{Some, None, option_map, if◌then◌else◌}
use Rattle.hp_model.specs.WordOperations.{bit_number}
use Rattle.jd_model.specs.Assembly.{IsRoutine}
use Rattle.jd_model.specs.Problems.{IsProblem}
use Rattle.jd_problem.specs.declared.problem.Problem.{Problem}
use Rattle.jd_problem.specs.Problems.{problem_of}

pub is-problem : (p : Problem) → IsRoutine p.first → IsRoutine p.second → IsProblem (problem_of p)
is-problem p first second = record {
  size_least = p.size.at_least_one;
  size_most = p.size.at_most_64;
  steps_least = p.steps_least;
  steps_most = p.steps_most;
  paths_least = p.paths_least;
  paths_most = p.paths_most;
  budget_least = p.budget_least;
  budget_most = p.budget_most;
  observed_count = omega (arith, p.observed.six_flags, length_push p.observed.flags p.observed.memory);
  fixed_count = omega (arith, p.fixed.six_flags, length-map p.fixed.flags (option_map bit_number), length_push (map (option_map bit_number) p.fixed.flags) (if p.fixed.memory then Some 0 else None));
  fixed_within = p.fixed_within;
  assumed_count = p.assumed_within.few;
  assumed_numbers = p.assumed_within.numbers;
  first_routine = first;
  second_routine = second;
}
