-- Each by computing it.
use Rattle.std.proofs.Common.{refl}
use Rattle.std.specs.Fmt.{digits}
use Rattle.jd_model.proofs.laws.worked_bits.Goals as goal

pub returns : goal.returns
unfolding digits
returns c = record {
  count = refl;
  start = refl;
  back = refl;
  allowed = refl;
  assumed_allowed = refl;
  assumed_not_allowed = refl;
  in_range_all_the_same = refl;
  not_allowed = refl;
}
