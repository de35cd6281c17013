-- Each by computing it.
use Rattle.std.proofs.Common.{refl}
use Rattle.std.specs.Fmt.{digits}
use Rattle.jd_model.proofs.laws.worked_problems.Goals as goal

pub returns : goal.returns
unfolding digits
returns c = record {
  doubling_read = refl;
  doubling_read_otherwise = refl;
  doubling_written = refl;
  doubling_bits = refl;
  most_bits = refl;
  fixed_written = refl;
  fixed_read = refl;
  empty_input = refl;
  word_twice = refl;
  no_mode = refl;
  no_end = refl;
  no_second = refl;
  unknown_line = refl;
  operation_before_first = refl;
  words_after_end = refl;
  version_0 = refl;
  version_3 = refl;
  word_0 = refl;
  word_65 = refl;
  mode_3 = refl;
  base_7 = refl;
  steps_0 = refl;
  steps_1001 = refl;
  paths_0 = refl;
  paths_65537 = refl;
  budget_0 = refl;
  budget_1048577 = refl;
  syntax_before_repeated = refl;
  repeated_before_range = refl;
  missing_before_range = refl;
  hexadecimal_word = refl;
  eleven_digits = refl;
  ten_digits = refl;
  part_observed_twice = refl;
  observed_too_early = refl;
  no_part = refl;
  fixed_twice = refl;
  fixed_too_early = refl;
  fixed_too_late = refl;
  fixed_too_great = refl;
  flag_too_great = refl;
  memory_not_zero = refl;
  unknown_operation = refl;
  longest_routine = refl;
  routine_too_long = refl;
}
