-- The worked key files, each by computing it.
use Rattle.std.proofs.Common.{refl}
use Rattle.std.specs.Fmt.{digits}
use Rattle.hp_model.specs.Press.{lines_per_key}
use Rattle.hp_model.proofs.EndlessRun.{endless_run as never_ends}
use Rattle.hp_model.proofs.laws.worked_key_files.Goals as goal

pub returns : goal.returns
unfolding digits lines_per_key
returns c = record {
  empty_file = refl;
  two_digits = refl;
  sum_out_of_range = refl;
  borrow = refl;
  carry = refl;
  ignored_digit = refl;
  exchanged = refl;
  separators = refl;
  out_of_range = refl;
  unsigned_difference = refl;
  negative_zero = refl;
  end_around_carry = refl;
  least_by_minus_one = refl;
  double_words = refl;
  divided_anew = refl;
  kept_past_six_bits = refl;
  program_takes_memory = refl;
  counted_loop = refl;
  calls_pending = refl;
  windows = refl;
  filled_with_zeros = refl;
  bad_second_line = refl;
  word_of_eight_letters = refl;
  at_the_limit = refl;
  past_the_limit = refl;
  bad_word_before_the_limit = refl;
  bad_word_at_the_limit = refl;
  full_program = refl;
  endless_run = never_ends;
  large_memory = refl;
  large_nibbles = refl;
  large_index = refl;
  standard_index = refl;
  standard_memory = refl;
  machine_on_second_line = refl;
  machine_as_second_word = refl;
  machine_named_twice = refl;
  machine_after_an_empty_line = refl;
  machine_alone = refl;
  full_large_program = refl;
}
