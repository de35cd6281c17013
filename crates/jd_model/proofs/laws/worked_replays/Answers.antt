-- Each by computing it.
use Rattle.std.proofs.Common.{refl}
use Rattle.std.specs.Fmt.{digits}
use Rattle.jd_model.proofs.laws.worked_replays.Goals as goal

pub returns : goal.returns
unfolding digits
returns c = record {
  carry_differs = refl;
  both_late = refl;
  all_parts = refl;
  beyond_the_standard_memory = refl;
  within_the_larger_memory = refl;
  assumption_met = refl;
  assumption_not_met = refl;
  empty_input = refl;
  no_start = refl;
  bad_start = refl;
}
