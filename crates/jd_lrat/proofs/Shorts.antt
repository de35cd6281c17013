-- Numbers of few digits, digit by digit.
use Rattle.std.proofs.Common.{◌≡◌, ℕ, zero, suc, ◌+◌, ◌-◌, ◌*◌, ◌^◌, ◌<◌, ◌≤◌, ◌==◌, ◌&&◌, ℤ, pos, Bool, true, false, not, List, [], ◌∷◌, ◌++◌, length, get_or, take, drop, Option, Some, refl, ap, sym, ◌∙◌, subst, arith, length-drop, length-take}
use Rattle.std.specs.Prelude.{slice_range, ◌≢◌}
use Rattle.std.specs.Cmp.Derive.{both_true}
use Rattle.std.specs.List.{AllWithin, list_all}
use Rattle.std.proofs.lemmas.Bool.Decides.{nat_tests}
use Rattle.std.proofs.lemmas.List.{take_more, get_or-drop, get_or-take}
use Rattle.jd_logic.specs.Numerals.{is_digit, is_number, number_from, number_of, negative_of, natural_of, integer_of}
use Rattle.jd_text.specs.Words.{is_separator, words_of}
use Rattle.jd_lrat.specs.Integers.{IsShort}
use Rattle.jd_lrat.proofs.Digit.{number_from-push, digits-push}

-- so far digits that are this number, and no separator
pub record Reads (text : List ℕ) (from v i : ℕ) : Type 0 where
  pub after : from ≤ i
  pub within : i ≤ length text
  pub digits : list_all is_digit (slice_range text from i) ≡ true
  pub value : number_from 0 (slice_range text from i) ≡ v
  pub clear : AllWithin (λ b. is_separator b ≡ false) text from i
  pub some : from < i → 0 < v
  pub small : v < 10 ^ 18

range-more : (text : List ℕ) (from i : ℕ) → from ≤ i → i < length text → slice_range text from (i + 1) ≡ slice_range text from i ++ get_or text i 0 ∷ []
range-more text from i le short =
    let e : i + 1 - from ≡ (i - from) + 1 = omega (arith, le) in
    let within : i - from < length (drop from text) = omega (arith, length-drop from text, le, short) in
    let at : from + (i - from) ≡ i = omega (arith, le) in
    ap (λ k. take k (drop from text)) e ∙ take_more (drop from text) (i - from) 0 within
    ∙ ap (λ b. slice_range text from i ++ b ∷ []) (get_or-drop from text (i - from) 0 ∙ ap (λ k. get_or text k 0) at)

digit-clear : (b : ℕ) → is_digit b ≡ true → is_separator b ≡ false
digit-clear b h = grind (arith, nat_tests, h)

digit-least : (b : ℕ) → is_digit b ≡ true → 48 ≤ b
digit-least b h = grind (arith, nat_tests, h)

digit-most : (b : ℕ) → is_digit b ≡ true → b ≤ 57
digit-most b h = grind (arith, nat_tests, h)

pub reads-none : (text : List ℕ) (from : ℕ) → from < length text → Reads text from 0 from
reads-none text from short =
    let none : from - from ≡ 0 = omega arith in
    let nothing : slice_range text from from ≡ [] = ap (λ k. take k (drop from text)) none ∙ take-zero (drop from text) in
    record {
      after = omega arith;
      within = omega (arith, short);
      digits = ap (list_all is_digit) nothing;
      value = ap (number_from 0) nothing;
      clear = λ k d low high. absurd (omega (arith, low, high));
      some = λ h. absurd (omega (arith, h));
      small = omega arith;
    }
  where
    take-zero : (xs : List ℕ) → take 0 xs ≡ []
    take-zero [] = refl
    take-zero (x ∷ xs) = refl

-- one digit more
pub reads-more : (text : List ℕ) (from v i next : ℕ) → Reads text from v i → i < length text → is_digit (get_or text i 0) ≡ true → v < 10 ^ 17
    → (get_or text from 0 == 48) ≡ false → next ≡ 10 * v + (get_or text i 0 - 48) → Reads text from next (i + 1)
reads-more text from v i next r short is few first turn =
    let le = r.after in
    let b = get_or text i 0 in
    let more : slice_range text from (i + 1) ≡ slice_range text from i ++ b ∷ [] = range-more text from i r.after short in
    let low : 48 ≤ b = digit-least b is in
    let high : b ≤ 57 = digit-most b is in
    record {
      after = omega (arith, le);
      within = omega (arith, short);
      digits = ap (list_all is_digit) more ∙ digits-push (slice_range text from i) b r.digits is;
      value = ap (number_from 0) more ∙ number_from-push 0 (slice_range text from i) b ∙ ap (λ n. 10 * n + (b - 48)) r.value ∙ sym turn;
      clear = λ k d from-k k-next. clear-at k d from-k k-next (k == i) refl;
      some = λ h. positive (i == from) refl;
      small = omega (arith, few, high, turn);
    }
  where
    same : (k j : ℕ) → (k == j) ≡ true → k ≡ j
    same k j h = grind (arith, nat_tests, h)

    other : (k j : ℕ) → (k == j) ≡ false → k ≢ j
    other k j h = grind (arith, nat_tests, h)

    default : (xs : List ℕ) (k d e : ℕ) → k < length xs → get_or xs k d ≡ get_or xs k e
    default [] k d e h = absurd (omega (arith, h))
    default (x ∷ xs) zero d e h = refl
    default (x ∷ xs) (suc k) d e h = default xs k d e (omega (arith, h))

    clear-at : (k d : ℕ) → from ≤ k → k < i + 1 → (t : Bool) → (k == i) ≡ t → is_separator (get_or text k d) ≡ false
    clear-at k d low high true e =
        let at : k ≡ i = same k i e in
        subst (λ j. is_separator (get_or text j d) ≡ false) (sym at) (ap is_separator (default text i d 0 short) ∙ digit-clear (get_or text i 0) is)
    clear-at k d low high false e = let n = other k i e in r.clear k d low (omega (arith, high, n))

    not-zero : (b : ℕ) → 48 ≤ b → (b == 48) ≡ false → 48 < b
    not-zero b low h = grind (arith, nat_tests, low, h)

    positive : (t : Bool) → (i == from) ≡ t → 0 < next
    positive true e =
        let at : i ≡ from = same i from e in
        let b : 48 < get_or text i 0 = not-zero (get_or text i 0) (digit-least (get_or text i 0) is) (ap (λ j. get_or text j 0 == 48) at ∙ first) in
        omega (arith, turn, b)
    positive false e =
        let n = other i from e in
        let le = r.after in
        let v-some : 0 < v = r.some (omega (arith, n, le)) in
        omega (arith, turn, v-some)

-- the number of the digits
is-number : (word : List ℕ) → 0 < length word → list_all is_digit word ≡ true → (get_or word 0 0 == 48) ≡ false → is_number word ≡ true
is-number [] some h first = absurd (omega (arith, some))
is-number (b ∷ []) some h first = single (is_digit b) h
  where
    single : (t : Bool) → (t && true) ≡ true → t ≡ true
    single true e = refl
    single false e = cc
is-number (b ∷ c ∷ word) some h first = both_true (ap not first) h

number-is : (word : List ℕ) (v : ℕ) → is_number word ≡ true → number_from 0 word ≡ v → number_of word ≡ Some v
number-is word v is value = rw (is, number_of) (ap (λ n. Some n) value)

natural-is : (word : List ℕ) (v : ℕ) → number_of word ≡ Some v → natural_of word ≡ Some (pos v)
natural-is word v is = rw (is, natural_of) refl

no-sign : (word : List ℕ) → 0 < length word → list_all is_digit word ≡ true → integer_of word ≡ natural_of word
no-sign [] some h = absurd (omega (arith, some))
no-sign (b ∷ word) some h =
    let first : is_digit b ≡ true = left (is_digit b) (list_all is_digit word) h in
    let other : (b == 45) ≡ false = grind (arith, nat_tests, first) in
    by (b == 45) other
  where
    left : (s t : Bool) → (s && t) ≡ true → s ≡ true
    left true t e = refl
    left false t e = cc

    by : (t : Bool) → t ≡ false → ◌≡◌ {A = Option ℤ} (elim t [ true ↦ negative_of word | false ↦ natural_of (b ∷ word) ]) (natural_of (b ∷ word))
    by false e = refl
    by true e = cc

pub short-is : (text : List ℕ) (from v end : ℕ) → Reads text from v end → from < end → (get_or text from 0 == 48) ≡ false
    → words_of (drop from text) ≡ slice_range text from end ∷ words_of (drop end text) → IsShort text from v end
short-is text from v end r lt first words =
    let within = r.within in
    let word = slice_range text from end in
    let size : length word ≡ end - from = omega (arith, length-take (end - from) (drop from text), length-drop from text, within, lt) in
    let some : 0 < length word = omega (arith, size, lt) in
    let short : 0 < end - from = omega (arith, lt) in
    let here : from + 0 ≡ from = omega arith in
    let first-of : get_or word 0 0 ≡ get_or text from 0 = get_or-take (end - from) (drop from text) 0 0 short ∙ get_or-drop from text 0 0 ∙ ap (λ k. get_or text k 0) here in
    let is : is_number word ≡ true = is-number word some r.digits (ap (λ b. b == 48) first-of ∙ first) in
    record {
      after = lt;
      within = r.within;
      words = words;
      some = r.some lt;
      small = r.small;
      no_sign = no-sign word some r.digits ∙ natural-is word v (number-is word v is r.value);
    }
