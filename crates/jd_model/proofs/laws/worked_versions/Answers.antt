-- Each by computing it.
use Rattle.std.proofs.Common.{refl}
use Rattle.std.specs.Fmt.{digits}
use Rattle.jd_model.proofs.laws.worked_versions.Goals as goal

pub returns : goal.returns
unfolding digits
returns c = record {
  assumed_read = refl;
  assumed_written = refl;
  most_large_bits = refl;
  first_version_will_do = refl;
  memory_in_version_1 = refl;
  assume_in_version_1 = refl;
  memory_in_a_routine_of_version_1 = refl;
  no_memory = refl;
  memory_204 = refl;
  memory_twice = refl;
  version_twice = refl;
  assumed_too_early = refl;
  assumed_too_late = refl;
  fixed_after_assumed = refl;
  memory_in_a_routine = refl;
  most_assumed = refl;
  one_more_assumed = refl;
  syntax_before_range = refl;
  no_relation = refl;
  flag_assumed = refl;
  against_number_f0 = refl;
  against_seventeen_digits = refl;
}
