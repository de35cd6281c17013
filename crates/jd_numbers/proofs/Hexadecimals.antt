-- The hexadecimal digits of a number, one digit after the others.
use Rattle.std.proofs.Common.{◌≡◌, ℕ, zero, suc, ◌+◌, ◌/◌, ◌%◌, ◌^◌, ◌<◌, ◌≤◌, Bool, true, false, List, [], ◌∷◌, ◌++◌, length, cond, refl, sym, ap, ◌∙◌, arith, append_assoc, length-append}
use Rattle.std.specs.Prelude.{◌==◌, nat_lt}
use Rattle.std.specs.Fmt.{digits, digits_onto, digit_glyph}
use Rattle.std.proofs.lemmas.Bool.Decides.{nat_tests}
use Rattle.std.proofs.lemmas.Fmt.{hex_one_digit}
use Rattle.jd_text.specs.Digits.{hexadecimal}

-- the digits of a number up to a size, before others
abbrev onto : ℕ → ℕ → List ℕ → List ℕ
onto size n digits = digits_onto size 16 true n digits

abbrev last_digit : ℕ → ℕ
last_digit n = digit_glyph true (n % 16)

onto-append : (size n : ℕ) (digits : List ℕ) → onto size n digits ≡ onto size n [] ++ digits
onto-append zero n digits = refl
onto-append (suc size) n digits =
    by (n / 16 == 0) (onto-append size (n / 16) (last_digit n ∷ digits)) (onto-append size (n / 16) (last_digit n ∷ []))
  where
    rest : List ℕ → List ℕ
    rest more = onto size (n / 16) (last_digit n ∷ more)

    by : (short : Bool) → rest digits ≡ onto size (n / 16) [] ++ last_digit n ∷ digits → rest [] ≡ onto size (n / 16) [] ++ last_digit n ∷ []
        → cond short (last_digit n ∷ digits) (rest digits) ≡ cond short (last_digit n ∷ []) (rest []) ++ digits
    by true e f = refl
    by false e f = e ∙ sym (append_assoc (onto size (n / 16) []) (last_digit n ∷ []) digits) ∙ ap (λ xs. xs ++ digits) (sym f)

-- digits past those that a number has change nothing
onto-enough : (size n : ℕ) (digits : List ℕ) → n < 16 ^ suc size → onto (suc size) n digits ≡ onto (suc (suc size)) n digits
onto-enough zero n digits small = let short : (n / 16 == 0) ≡ true = grind (arith, nat_tests) in rw short refl
onto-enough (suc size) n digits small = ap (λ xs. cond (n / 16 == 0) (last_digit n ∷ digits) xs) (onto-enough size (n / 16) (last_digit n ∷ digits) (omega arith))

pub hexadecimal-step : (n : ℕ) → 16 ≤ n → n < 2 ^ 64 → hexadecimal n ≡ hexadecimal (n / 16) ++ digit_glyph true (n % 16) ∷ []
unfolding digits
hexadecimal-step n many small =
    let long : (n / 16 == 0) ≡ false = grind (arith, nat_tests) in
    ap (λ short. cond short (last_digit n ∷ []) (onto 63 (n / 16) (last_digit n ∷ []))) long
    ∙ onto-enough 62 (n / 16) (last_digit n ∷ []) (omega arith)
    ∙ onto-append 64 (n / 16) (last_digit n ∷ [])

pub hexadecimal-digit : (n : ℕ) → n < 16 → hexadecimal n ≡ digit_glyph true (n % 16) ∷ []
hexadecimal-digit n small = let e : n % 16 ≡ n = omega arith in hex_one_digit true n small ∙ ap (λ d. digit_glyph true d ∷ []) (sym e)

pub length-step : (n : ℕ) → 16 ≤ n → n < 2 ^ 64 → length (hexadecimal n) ≡ length (hexadecimal (n / 16)) + 1
length-step n many small = ap length (hexadecimal-step n many small) ∙ length-append (hexadecimal (n / 16)) (last_digit n ∷ [])

-- a number below a power of 16 has at most so many digits
length-below : (size n : ℕ) → n < 16 ^ suc size → n < 2 ^ 64 → length (hexadecimal n) ≤ suc size
length-below zero n short small = let one : length (hexadecimal n) ≡ 1 = ap length (hexadecimal-digit n (omega arith)) in omega arith
length-below (suc size) n short small = by (nat_lt n 16) refl (length-below size (n / 16) (omega arith) (omega arith))
  where
    by : (few : Bool) → nat_lt n 16 ≡ few → length (hexadecimal (n / 16)) ≤ suc size → length (hexadecimal n) ≤ suc (suc size)
    by true is rest = let one : length (hexadecimal n) ≡ 1 = ap length (hexadecimal-digit n (grind (arith, nat_tests))) in omega arith
    by false is rest =
        let more = length-step n (grind (arith, nat_tests)) small in omega (arith, more)

-- a number of 64 bits has at most 16 digits
pub length-hexadecimal : (n : ℕ) → n < 2 ^ 64 → length (hexadecimal n) ≤ 16
length-hexadecimal n small = length-below 15 n (omega arith) small

pub ruleset hexadecimals = (hexadecimal-step, hexadecimal-digit, length-hexadecimal)
