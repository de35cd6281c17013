-- Each by computing it.
use Rattle.std.proofs.Common.{refl}
use Rattle.jd_model.proofs.laws.worked_texts.Goals as goal

pub returns : goal.returns
returns c = record {
  two_lines = refl;
  two_codes = refl;
  two_codes_read = refl;
  two_listed = refl;
  separators = refl;
  no_lines = refl;
  no_codes = refl;
  codes_on_lines = refl;
  float_key = refl;
  float_key_and_more = refl;
  unknown_word = refl;
  missing_operand = refl;
  wrong_operand = refl;
  further_operand = refl;
  whole_routine = refl;
  line_too_many = refl;
  bad_line_203_lines_on = refl;
  no_code = refl;
  last_code = refl;
  one_digit = refl;
  three_digits = refl;
  no_digit = refl;
}
