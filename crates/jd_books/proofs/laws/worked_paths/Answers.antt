-- Each by computing it.
use Rattle.std.proofs.Common.{refl}
use Rattle.jd_books.proofs.laws.worked_paths.Goals as goal

pub returns : goal.returns
returns c = record {
  straight = refl;
  answer_left = refl;
  asked = refl;
  answered = refl;
  one_answer_more = refl;
  late = refl;
  second_errs = refl;
  zero_answers = refl;
  one_answers = refl;
  begun = refl;
  parted = refl;
  too_long = refl;
  last_no_turned = refl;
  first_no_turned = refl;
  no_no_left = refl;
}
