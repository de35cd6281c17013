-- A number's digits read back as the number.
use Rattle.std.proofs.Common.{◌≡◌, ℕ, zero, suc, ◌+◌, ◌*◌, ◌/◌, ◌%◌, ◌^◌, ◌<◌, ◌≤◌, ◌&&◌, ◌==◌, Bool, true, false, cond, List, [], ◌∷◌, length, Some, None, refl, ap, ◌∙◌, subst, arith, nat_lt, nat_le, lit≤}
use Rattle.std.specs.Prelude.{decimal}
use Rattle.std.specs.Char.{digit_value as std_value}
use Rattle.std.specs.Cmp.Derive.{both_true}
use Rattle.std.specs.Fmt.{digits, digits_onto, digit_glyph}
use Rattle.std.specs.List.{list_all}
use Rattle.std.specs.Str.Parse.{AllDigits, digits_value_after}
use Rattle.std.proofs.lemmas.Bool.{eqb-true}
use Rattle.std.proofs.lemmas.Bool.Decides.{nat_tests}
use Rattle.std.proofs.lemmas.Fmt.{digits_is_IsNumeral}
use Rattle.std.proofs.Math.Nat.{div-eq_of_lt, pow-suc, pow-zero, div-lt_iff_lt-mul}
use Rattle.jd_text.specs.Digits.{digit_value, digits_value, are_digits, number_in, decimal_number, hexadecimal_number, hexadecimal}
use Rattle.jd_text.specs.Words.{is_word}
use Rattle.jd_text.proofs.Tests.{left-part, right-part, passes_from, passes_at, test-less, test-le}
use Rattle.jd_text.proofs.WrittenLines.{is_letter, is_proper}

-- ---- one digit

-- whether a digit as it is written has its value
abbrev is_glyph_of : ℕ → Bool
is_glyph_of d = digit_value (digit_glyph true d) == d

-- the value of a digit that is written
pub glyph-value : (d : ℕ) → d < 16 → digit_value (digit_glyph true d) ≡ d
glyph-value d h =
    let all : passes_from is_glyph_of 0 16 ≡ true = refl in
    eqb-true (digit_value (digit_glyph true d)) d (passes_at is_glyph_of 0 16 d all (omega arith) h)

-- a digit below 16 has the value that std gives it
same-value : (b : ℕ) → std_value b < 16 → digit_value b ≡ std_value b
same-value b h = grind (arith, nat_tests)

-- a digit is neither a separator nor LF
letter-digit : (b : ℕ) → nat_lt (digit_value b) 16 ≡ true → is_letter b ≡ true
letter-digit b h = grind (arith, nat_tests)

-- digits are letters
pub letters-digits : (text : List ℕ) → are_digits 16 text ≡ true → list_all is_letter text ≡ true
letters-digits [] h = refl
letters-digits (b ∷ text) h =
    both_true (letter-digit b (left-part (nat_lt (digit_value b) 16) (are_digits 16 text) h)) (letters-digits text (right-part (nat_lt (digit_value b) 16) (are_digits 16 text) h))

-- ---- all digits

-- what std has as digits to a base are digits to it and to a greater one
all-digits : (base most : ℕ) (word : List ℕ) → base ≤ 16 → base ≤ most → AllDigits base word → are_digits most word ≡ true
all-digits base most [] small wide h = refl
all-digits base most (b ∷ word) small wide h =
    both_true (test-less (digit_value b) most (omega (arith, same-value b (omega (arith, h.0)), h.0))) (all-digits base most word small wide h.1)

-- and their number is the one that std gives
same-number : (base n : ℕ) (word : List ℕ) → base ≤ 16 → AllDigits base word → digits_value base n word ≡ digits_value_after base n word
same-number base n [] small h = refl
same-number base n (b ∷ word) small h =
    ap (λ v. digits_value base (n * base + v) word) (same-value b (omega (arith, h.0))) ∙ same-number base (n * base + std_value b) word small h.1

first-power : (base : ℕ) → base ^ 1 ≡ base
first-power base = pow-suc base 0 ∙ rw (pow-zero base) (omega arith)

-- what a division by the base leaves is smaller by one power
smaller : (base k n : ℕ) → 0 < base → n < base ^ suc k → n / base < base ^ k
smaller base k n b h = (div-lt_iff_lt-mul {k = base} {x = n} {y = base ^ k} b).1 (subst (λ m. n < m) (pow-suc base k) h)

-- a number below a power has at most so many digits
digits-short : (base : ℕ) (upper : Bool) → 0 < base → (k j n : ℕ) (acc : List ℕ) → n < base ^ suc j
    → length (digits_onto k base upper n acc) ≤ suc j + length acc
digits-short base upper b zero j n acc h = omega arith
digits-short base upper b (suc k) zero n acc h =
    let none : n / base ≡ 0 = div-eq_of_lt (subst (λ m. n < m) (first-power base) h) in
    let test : (n / base == 0) ≡ true = grind (arith, nat_tests, none) in
    rw test (omega arith)
digits-short base upper b (suc k) (suc j) n acc h =
    by_rest (n / base == 0) (digits-short base upper b k j (n / base) (digit_glyph upper (n % base) ∷ acc) (smaller base (suc j) n b h))
  where
    glyph : List ℕ
    glyph = digit_glyph upper (n % base) ∷ acc

    by_rest : (z : Bool) → length (digits_onto k base upper (n / base) glyph) ≤ suc j + suc (length acc)
        → length (cond z glyph (digits_onto k base upper (n / base) glyph)) ≤ suc (suc j) + length acc
    by_rest true more = omega arith
    by_rest false more = omega (arith, more)

-- so do those that are written
digits-most : (base : ℕ) (upper : Bool) → 2 ≤ base → (j n : ℕ) → n < base ^ suc j → length (digits base upper n) ≤ suc j
unfolding digits
digits-most base upper b j n h = omega (arith, digits-short base upper (omega (arith, b)) 64 j n [] h)

-- ---- numbers

-- a base whose digits are digits and letters up to F
abbrev IsBase : ℕ → Type 0
IsBase base = (2 ≤ base) × (base ≤ 16)

-- a choice by three tests that hold
three : {A : Type 0} (a b c : Bool) (x y : A) → a ≡ true → b ≡ true → c ≡ true → cond (a && b && c) x y ≡ x
three a b c x y e f g = rw (e, f, g)

-- the digits of a number read back as the number
number-digits : (base : ℕ) (upper : Bool) → IsBase base → (j n : ℕ) → n < base ^ suc j → n < base ^ 64
    → number_in base (suc j) (digits base upper n) ≡ Some n
number-digits base upper b j n short h =
    let word = digits base upper n in
    let numeral = digits_is_IsNumeral base upper b.0 b.1 n h in
    three (nat_le 1 (length word)) (nat_le (length word) (suc j)) (are_digits base word) (Some (digits_value base 0 word)) None
    (test-le 1 (length word) numeral.0.0) (test-le (length word) (suc j) (digits-most base upper b.0 j n short)) (all-digits base base word b.1 (omega arith) numeral.0.1)
    ∙ ap (λ v. Some v) (same-number base 0 word b.1 numeral.0.1 ∙ numeral.1)

pub decimal-number : (n : ℕ) → n < 10 ^ 10 → decimal_number (decimal n) ≡ Some n
decimal-number n h = number-digits 10 false (lit≤ tt, lit≤ tt) 9 n h (omega (arith, h))

pub hexadecimal-number : (n : ℕ) → n < 2 ^ 64 → hexadecimal_number (hexadecimal n) ≡ Some n
hexadecimal-number n h = number-digits 16 true (lit≤ tt, lit≤ tt) 15 n h (omega (arith, h))

-- ---- digits as words

-- a text with a byte is a word
word-some : (word : List ℕ) → 1 ≤ length word → is_word word ≡ true
word-some [] h = absurd (omega (arith, h))
word-some (b ∷ word) h = refl

-- the digits of a number are a proper word
digits-proper : (base : ℕ) (upper : Bool) (n : ℕ) → IsBase base → n < base ^ 64 → is_proper (digits base upper n) ≡ true
digits-proper base upper n b h =
    let word = digits base upper n in
    let numeral = digits_is_IsNumeral base upper b.0 b.1 n h in
    both_true (word-some word numeral.0.0) (letters-digits word (all-digits base 16 word b.1 b.1 numeral.0.1))

-- the hexadecimal digits of a number are digits
pub hexadecimal-digits : (n : ℕ) → n < 2 ^ 64 → are_digits 16 (hexadecimal n) ≡ true
hexadecimal-digits n h =
    let numeral = digits_is_IsNumeral 16 true (lit≤ tt) (lit≤ tt) n (omega (arith, h)) in
    all-digits 16 16 (hexadecimal n) (lit≤ tt) (lit≤ tt) numeral.0.1

pub decimal-proper : (n : ℕ) → n < 10 ^ 64 → is_proper (decimal n) ≡ true
decimal-proper n h = digits-proper 10 false n (lit≤ tt, lit≤ tt) h

pub hexadecimal-proper : (n : ℕ) → n < 2 ^ 64 → is_proper (hexadecimal n) ≡ true
hexadecimal-proper n h = digits-proper 16 true n (lit≤ tt, lit≤ tt) (omega (arith, h))
