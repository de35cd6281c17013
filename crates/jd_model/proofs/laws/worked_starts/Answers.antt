-- Each by computing it.
use Rattle.std.proofs.Common.{refl}
use Rattle.std.specs.Fmt.{digits}
use Rattle.jd_model.proofs.laws.worked_starts.Goals as goal

pub returns : goal.returns
unfolding digits
returns c = record {
  zero_written = refl;
  start_read = refl;
  start_written = refl;
  all_nibbles = refl;
  nibble_too_many = refl;
  two_words_of_nibbles = refl;
  no_nibble = refl;
  no_flag = refl;
  five_flags = refl;
  too_great = refl;
  seventeen_digits = refl;
  another_line = refl;
  line_after_end = refl;
  no_end = refl;
  no_start = refl;
  fixed_flag = refl;
  assumptions_met = refl;
  assumptions_not_met = refl;
  other_flag = refl;
}
