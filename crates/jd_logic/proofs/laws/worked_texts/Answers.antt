-- Each by computing it.
use Rattle.std.proofs.Common.{refl}
use Rattle.std.specs.Fmt.{digits}
use Rattle.jd_logic.proofs.laws.worked_texts.Goals as goal

pub returns : goal.returns
unfolding digits
returns c = record {
  nothing = refl;
  clause_over_lines = refl;
  comments = refl;
  comments_not_counted = refl;
  tabs_and_cr = refl;
  line_of_last_zero = refl;
  clause_missing = refl;
  literal_above = refl;
  minus_zero = refl;
  leading_zero = refl;
  plus = refl;
  most_variables = refl;
  one_variable_more = refl;
  greatest_id = refl;
  one_id_more = refl;
  greatest_literal = refl;
  one_literal_more = refl;
  greatest_hint = refl;
  one_hint_more = refl;
  words_after_end = refl;
}
