-- The worked rows, each by computing it.
use Rattle.std.proofs.Common.{refl}
use Rattle.hp_model.proofs.laws.worked_answers.Goals as goal

pub returns : goal.returns
returns c = record {
  ones_sum = refl;
  ones_sum_to_negative_zero = refl;
  ones_difference = refl;
  ones_difference_with_borrow = refl;
  unsigned_difference = refl;
  twos_sum_out_of_range = refl;
  unsigned_product = refl;
  quotient = refl;
  quotient_out_of_range = refl;
  rest = refl;
  negative_zero = refl;
  unsigned_negation = refl;
  least_has_no_absolute = refl;
  whole_root = refl;
  greatest_root = refl;
  double_words = refl;
  divided_back = refl;
  quotient_too_great = refl;
  double_rest = refl;
  sign_is_kept = refl;
  through_carry = refl;
  whole_turn = refl;
  no_turn = refl;
  shifts_to_the_top = refl;
  ones = refl;
  whole_mask = refl;
  no_mask = refl;
  ten_answers = refl;
  twelve_answers = refl;
  too_few_answers = refl;
  too_many_answers = refl;
  yes_is_an_error = refl;
  nothing_after_an_error = refl;
  nothing_asked = refl;
}
