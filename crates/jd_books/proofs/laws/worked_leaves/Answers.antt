-- Each by computing it.
use Rattle.std.proofs.Common.{refl}
use Rattle.jd_books.proofs.laws.worked_leaves.Goals as goal

pub returns : goal.returns
returns c = record {
  conjunction = refl;
  exclusive_or = refl;
  one_gate = refl;
  never_true = refl;
  always_true = refl;
  refuted = refl;
  open_still = refl;
  hint_left_out = refl;
  first_of_bad = refl;
  first_of_open = refl;
  none_open = refl;
}
