-- Numbers that are written read back, and are proper words.
use Rattle.std.proofs.Common.{◌≡◌, ℕ, zero, suc, ◌+◌, ◌*◌, ◌-◌, ◌^◌, ◌<◌, ◌==◌, ℤ, pos, negsuc, Bool, true, false, not, List, [], ◌∷◌, get_or, Option, Some, refl, ap, sym, ◌∙◌, subst, arith, lit≤, length, codes}
use Rattle.std.specs.Prelude.{decimal, nat_abs}
use Rattle.std.specs.Char.{digit_value as std_value}
use Rattle.std.specs.Cmp.Derive.{both_true}
use Rattle.std.specs.Fmt.{digits}
use Rattle.std.specs.List.{list_all}
use Rattle.std.specs.Str.Parse.{AllDigits, digits_value_after}
use Rattle.std.proofs.lemmas.Bool.Decides.{nat_tests}
use Rattle.std.proofs.lemmas.Fmt.{digits_is_IsNumeral, first_decimal}
use Rattle.jd_logic.specs.Numerals.{is_digit, is_number, number_from, number_of, negative_of, natural_of, integer_of}
use Rattle.jd_text.specs.Words.{is_text}
use Rattle.jd_text.proofs.WrittenLines.{is_proper}
use Rattle.jd_text.proofs.WrittenNumbers.{decimal-proper}
use Rattle.jd_trees.specs.CertWriter.{signed_text}

digit : (b : ℕ) → std_value b < 10 → is_digit b ≡ true
digit b h = grind (arith, nat_tests)

digit-value : (b : ℕ) → std_value b < 10 → b - 48 ≡ std_value b
digit-value b h = grind (arith, nat_tests)

all-digits : (word : List ℕ) → AllDigits 10 word → list_all is_digit word ≡ true
all-digits [] h = refl
all-digits (b ∷ word) h = both_true (digit b h.0) (all-digits word h.1)

same-number : (n : ℕ) (word : List ℕ) → AllDigits 10 word → number_from n word ≡ digits_value_after 10 n word
same-number n [] h = refl
same-number n (b ∷ word) h =
    let turn : 10 * n + (b - 48) ≡ n * 10 + std_value b = omega (arith, digit-value b h.0) in
    ap (λ v. number_from v word) turn ∙ same-number (n * 10 + std_value b) word h.1

-- digits of which the first isn't 0, or there is no other
is-number : (word : List ℕ) → AllDigits 10 word → 48 < get_or word 0 0 → is_number word ≡ true
is-number [] h first = absurd (omega (arith, first))
is-number (b ∷ []) h first = digit b h.0
is-number (b ∷ c ∷ word) h first =
    let other : not (b == 48) ≡ true = grind (arith, nat_tests, first) in
    both_true other (all-digits (b ∷ c ∷ word) h)

number-of : (word : List ℕ) (n : ℕ) → is_number word ≡ true → number_from 0 word ≡ n → number_of word ≡ Some n
number-of word n is value = rw (is, number_of) (ap (λ n. Some n) value)

pub number-back : (n : ℕ) → n < 2 ^ 64 → number_of (decimal n) ≡ Some n
unfolding digits
number-back zero h = refl
number-back (suc n) h =
    let numeral = digits_is_IsNumeral 10 false (lit≤ tt) (lit≤ tt) (suc n) (omega (arith, h)) in
    number-of (decimal (suc n)) (suc n) (is-number (decimal (suc n)) numeral.0.1 (first_decimal (suc n) (omega arith) h))
    (same-number 0 (decimal (suc n)) numeral.0.1 ∙ numeral.1)

-- the first byte of a number is a digit
record Starts (word : List ℕ) : Type 0 where
  pub first : ℕ
  pub rest : List ℕ
  pub is : word ≡ first ∷ rest
  pub is_digit_first : std_value first < 10

starts : (word : List ℕ) → 0 < length word → AllDigits 10 word → Starts word
starts [] some h = absurd (omega (arith, some))
starts (b ∷ word) some h = record { first = b; rest = word; is = refl; is_digit_first = h.0 }

decimal-starts : (n : ℕ) → n < 2 ^ 64 → Starts (decimal n)
decimal-starts n h =
    let numeral = digits_is_IsNumeral 10 false (lit≤ tt) (lit≤ tt) n (omega (arith, h)) in
    starts (decimal n) numeral.0.0 numeral.0.1

natural-back : (word : List ℕ) (n : ℕ) → number_of word ≡ Some n → natural_of word ≡ Some (pos n)
natural-back word n is = rw (is, natural_of) refl

no-minus : (word : List ℕ) → Starts word → integer_of word ≡ natural_of word
no-minus word s =
    let other : (s.first == 45) ≡ false = grind (arith, nat_tests, s.is_digit_first) in
    subst (λ w. integer_of w ≡ natural_of w) (sym s.is) (by (s.first == 45) other)
  where
    by : (b : Bool) → b ≡ false → ◌≡◌ {A = Option ℤ} (elim b [ true ↦ negative_of s.rest | false ↦ natural_of (s.first ∷ s.rest) ]) (natural_of (s.first ∷ s.rest))
    by false h = refl
    by true h = cc

pub integer-back : (n : ℕ) → n < 2 ^ 64 → integer_of (decimal n) ≡ Some (pos n)
integer-back n h = no-minus (decimal n) (decimal-starts n h) ∙ natural-back (decimal n) n (number-back n h)

negative-back : (n : ℕ) → number_of (decimal (suc n)) ≡ Some (suc n) → negative_of (decimal (suc n)) ≡ Some (negsuc n)
negative-back n is = rw (is, negative_of) refl

pub signed-back : (z : ℤ) → nat_abs z < 2 ^ 64 → integer_of (signed_text z) ≡ Some z
signed-back (pos n) h = integer-back n h
signed-back (negsuc n) h = negative-back n (number-back (suc n) h)

-- no number is the word `d`
not-d : (word : List ℕ) → Starts word → is_text (codes "d") word ≡ false
not-d word s =
    let other : (100 == s.first) ≡ false = grind (arith, nat_tests, s.is_digit_first) in
    subst (λ w. is_text (codes "d") w ≡ false) (sym s.is) (rw other refl)

pub signed-not-d : (z : ℤ) → nat_abs z < 2 ^ 64 → is_text (codes "d") (signed_text z) ≡ false
signed-not-d (pos n) h = not-d (decimal n) (decimal-starts n h)
signed-not-d (negsuc n) h = refl

pub signed-proper : (z : ℤ) → nat_abs z < 2 ^ 64 → is_proper (signed_text z) ≡ true
signed-proper (pos n) h = decimal-proper n (omega (arith, h))
signed-proper (negsuc n) h = minus-proper (decimal (suc n)) (decimal-proper (suc n) (omega (arith, h)))
  where
    minus-proper : (word : List ℕ) → is_proper word ≡ true → is_proper (45 ∷ word) ≡ true
    minus-proper [] h = cc
    minus-proper (b ∷ word) h = h
