-- Signs: values as magnitudes with signs, and their patterns.
use Rattle.std.proofs.Common.{◌≡◌, ℕ, zero, suc, ◌+◌, ◌-◌, ◌*◌, ◌%◌, ◌^◌, ◌<◌, ◌≤◌, ◌==◌, ◌&&◌, Bool, true, false, not, nat_lt, nat_le, refl, sym, ap, ◌∙◌, arith}
use Rattle.std.specs.Prelude.{ℤ, pos, ◌-ℤ◌, neg_ℤ, nat_abs, if◌then◌else◌}
use Rattle.std.proofs.lemmas.Bool.Decides.{nat_tests}
use Rattle.std.proofs.lemmas.Int.{ints}
use Rattle.std.proofs.Math.Nat.{one-le-pow, mod-eq_of_lt, zero-mod, mod_self}
use Rattle.hp_model.specs.declared.Mode.{Mode}
use Rattle.hp_model.specs.declared.Mode.TheVariants.{Unsigned, Ones, Twos}
use Rattle.hp_model.specs.Words.{value, low, fits}
use Rattle.hp_model.specs.WordOperations.{negation_pattern}
use Rattle.jd_rows.proofs.Range.{double_half, fits_as}
use Rattle.jd_rows.specs.Answers.{with_sign, above, below, shows_minus}

-- what a negative pattern is taken from
abbrev pub whole : ℕ → Mode → ℕ
whole w Ones = 2 ^ w - 1
whole w _ = 2 ^ w

-- whether a pattern's value is below 0, or minus 0
abbrev pub is_minus : ℕ → Mode → ℕ → Bool
is_minus w Unsigned p = false
is_minus w _ p = nat_le (2 ^ (w - 1)) p

-- a value is its magnitude with its sign
value_if : (H p m : ℕ) → p ≤ m → (if nat_lt p H then pos p else pos p -ℤ pos m) ≡ with_sign (nat_le H p) (if nat_le H p then m - p else p)
value_if H p m h = by (nat_lt p H) (nat_le H p) (grind (arith, nat_tests))
  where
    minus : pos p -ℤ pos m ≡ neg_ℤ (pos (m - p))
    minus = omega (arith, ints)

    by : (a b : Bool) → b ≡ not a → (if a then pos p else pos p -ℤ pos m) ≡ with_sign b (if b then m - p else p)
    by true b e = rw e refl
    by false b e = rw e minus

pub value_signed : (w : ℕ) (mode : Mode) (p : ℕ) → p < 2 ^ w → value w mode p ≡ with_sign (is_minus w mode p) (if is_minus w mode p then whole w mode - p else p)
value_signed w Unsigned p h = refl
value_signed w Ones p h = value_if (2 ^ (w - 1)) p (2 ^ w - 1) (omega arith)
value_signed w Twos p h = value_if (2 ^ (w - 1)) p (2 ^ w) (omega arith)

-- the pattern of any number with a sign. Minus 0 is no number's pattern, but one's complement has it where the lower part alone is 0
pub low_sign : (w : ℕ) (mode : Mode) (s : Bool) (q : ℕ) → low w mode (with_sign s q) ≡ (if s && not (q == 0) then negation_pattern w mode (q % 2 ^ w) else q % 2 ^ w)
low_sign w mode false q = refl
low_sign w mode true zero = refl
low_sign w Unsigned true (suc q) = let z : (suc q == 0) ≡ false = grind (arith, nat_tests) in rw z refl
low_sign w Ones true (suc q) = let z : (suc q == 0) ≡ false = grind (arith, nat_tests) in rw z refl
low_sign w Twos true (suc q) = let z : (suc q == 0) ≡ false = grind (arith, nat_tests) in rw z refl

-- whether a number with a sign fits: one comparison with a bound that the sign and the mode choose
pub fits_sign : (w : ℕ) (mode : Mode) (s : Bool) (q : ℕ) → fits w mode (with_sign s q) ≡ nat_le q (if s then below w mode else above w mode)
fits_sign w mode false q = ap (fits w mode) plus ∙ fits_as w mode q 0 ∙ grind (arith, nat_tests)
  where
    plus : pos q ≡ pos q -ℤ pos 0
    plus = omega (arith, ints)
fits_sign w mode true q = ap (fits w mode) minus ∙ fits_as w mode 0 q ∙ grind (arith, nat_tests)
  where
    minus : neg_ℤ (pos q) ≡ pos 0 -ℤ pos q
    minus = omega (arith, ints)

-- ---- a word's sign and magnitude, and its pattern

pub value_ones : (w p : ℕ) (t : Bool) → p < 2 ^ w → t ≡ nat_le (2 ^ (w - 1)) p → value w Ones p ≡ with_sign t (if t then negation_pattern w Ones p else p)
value_ones w p t hp e = rw e (value_signed w Ones p hp)

twos_over : (H M p : ℕ) (t : Bool) → 1 ≤ H → H ≤ M → p < M → nat_le H p ≡ t → (if t then M - p else p) ≡ (if t then (M - p) % M else p)
twos_over H M p true h i hp e = let from : H ≤ p = grind (arith, nat_tests, e) in sym (mod-eq_of_lt (omega arith))
twos_over H M p false h i hp e = refl

pub value_twos : (w p : ℕ) (t : Bool) → 1 ≤ w → p < 2 ^ w → t ≡ nat_le (2 ^ (w - 1)) p → value w Twos p ≡ with_sign t (if t then negation_pattern w Twos p else p)
value_twos w p t h hp e =
    let half : 2 ^ w ≡ 2 * 2 ^ (w - 1) = double_half w h in
    value_signed w Twos p hp ∙ ap (λ b. with_sign b (if b then 2 ^ w - p else p)) (sym e)
    ∙ ap (with_sign t) (twos_over (2 ^ (w - 1)) (2 ^ w) p t (one-le-pow (w - 1) 2 (omega arith)) (omega arith) hp (sym e))

none_around : (M : ℕ) → 1 ≤ M → (M - 0 % M) % M ≡ 0 % M
none_around zero h = absurd (omega arith)
none_around (suc m) h = let whole : suc m - 0 ≡ suc m = omega arith in rw (zero-mod (suc m), whole) (mod_self (suc m))

pub shown_pattern : (w : ℕ) (mode : Mode) (s : Bool) (q : ℕ) → (if shows_minus mode s q then negation_pattern w mode (q % 2 ^ w) else q % 2 ^ w) ≡ low w mode (with_sign s q)
shown_pattern w Ones s q = sym (low_sign w Ones s q)
shown_pattern w Unsigned false q = refl
shown_pattern w Unsigned true zero = none_around (2 ^ w) (one-le-pow w 2 (omega arith))
shown_pattern w Unsigned true (suc q) = refl
shown_pattern w Twos false q = refl
shown_pattern w Twos true zero = none_around (2 ^ w) (one-le-pow w 2 (omega arith))
shown_pattern w Twos true (suc q) = refl

pub beyond : (w : ℕ) (mode : Mode) (s : Bool) (q b : ℕ) → b ≡ (if s then below w mode else above w mode) → nat_lt b q ≡ not (fits w mode (with_sign s q))
beyond w mode s q b e = rw e (turn (if s then below w mode else above w mode) q ∙ ap not (sym (fits_sign w mode s q)))
  where
    turn : (b q : ℕ) → nat_lt b q ≡ not (nat_le q b)
    turn b q = grind (arith, nat_tests)

with_sign_abs : (t : Bool) (b : ℕ) → nat_abs (with_sign t b) ≡ b
with_sign_abs false b = refl
with_sign_abs true zero = refl
with_sign_abs true (suc b) = refl

pub magnitude_is : (v : ℤ) (t : Bool) (b : ℕ) → v ≡ with_sign t b → nat_abs v ≡ b
magnitude_is v t b e = ap nat_abs e ∙ with_sign_abs t b
