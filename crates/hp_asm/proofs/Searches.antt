-- A search over the codes, one code more, and the first word of a text.
use Rattle.std.proofs.Common.{◌≡◌, ℕ, ◌+◌, ◌-◌, ◌<◌, ◌≤◌, Bool, true, false, List, Option, Some, None, is_some, arith, sym, ap, ◌∙◌}
use Rattle.hp_model.specs.Lists.{first_from}
use Rattle.hp_model.proofs.FirstFrom.{first_from-here, first_from-next}
use Rattle.jd_text.specs.Words.{words_of, is_text}
use Rattle.jd_text.specs.Places.{IsWordTo}
use Rattle.jd_model.specs.Assembly.{is_first}

module _ (test : ℕ → Bool) (i end : ℕ) (inside : i < end) where
  pub found-here : (found : Option ℕ) → test i ≡ true → first_from test i (end - i) ≡ found → Some i ≡ found
  found-here found passes same = sym (first_from-here test i end inside passes) ∙ same

  pub found-later : (found : Option ℕ) → test i ≡ false → first_from test i (end - i) ≡ found → first_from test (i + 1) (end - (i + 1)) ≡ found
  found-later found fails same = sym (first_from-next test i end inside fails) ∙ same

  pub some-here : (some : Bool) → test i ≡ true → is_some (first_from test i (end - i)) ≡ some → true ≡ some
  some-here some passes same = sym (ap is_some (first_from-here test i end inside passes)) ∙ same

  pub some-later : (some : Bool) → test i ≡ false → is_some (first_from test i (end - i)) ≡ some → is_some (first_from test (i + 1) (end - (i + 1))) ≡ some
  some-later some fails same = sym (ap is_some (first_from-next test i end inside fails)) ∙ same

none-left : (test : ℕ → Bool) (i end : ℕ) → end ≤ i → first_from test i (end - i) ≡ None
none-left test i end past = let e : end - i ≡ 0 = omega arith in ap (first_from test i) e

pub found-none : (test : ℕ → Bool) (i end : ℕ) → end ≤ i → (found : Option ℕ) → first_from test i (end - i) ≡ found → None ≡ found
found-none test i end past found same = sym (none-left test i end past) ∙ same

pub some-none : (test : ℕ → Bool) (i end : ℕ) → end ≤ i → (some : Bool) → is_some (first_from test i (end - i)) ≡ some → false ≡ some
some-none test i end past some same = sym (ap is_some (none-left test i end past)) ∙ same

pub first-word : (word text first : List ℕ) (end : ℕ) → IsWordTo text 0 first end → is_first word (words_of text) ≡ is_text first word
first-word word text first end t = ap (is_first word) t.words
