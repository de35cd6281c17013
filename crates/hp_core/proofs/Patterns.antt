-- Answers are patterns of the word.
use Rattle.std.proofs.Common.{◌≡◌, ℕ, zero, suc, ◌-◌, ◌*◌, ◌/◌, ◌%◌, ◌^◌, ◌<◌, ◌≤◌, Bool, true, false, arith, lit≤, pow-add, ap, ◌∙◌, refl, sym}
use Rattle.std.specs.Prelude.{ℤ, pos, negsuc, ◌*ℤ◌, ◌<ℤ◌, int_lt}
use Rattle.std.proofs.Math.Nat.{one-le-pow, mod-lt, div-lt_iff_lt-mul, le-mul_of_pos_right}
use Rattle.std.proofs.lemmas.Bool.Decides.{nat_tests}
use Rattle.std.proofs.lemmas.Int.{ints}
use Rattle.hp_model.specs.declared.Mode.{Mode}
use Rattle.hp_model.specs.declared.Mode.TheVariants.{Unsigned, Ones, Twos}
use Rattle.hp_model.specs.Words.{value, low, magnitude}
use Rattle.hp_model.proofs.WordValues.{doubled}
use Rattle.hp_model.specs.WordOperations.{double_product}

pub low_below : (w : ℕ) (mode : Mode) (v : ℤ) → low w mode v < 2 ^ w
low_below w Unsigned (pos n) = mod-lt n (one-le-pow w 2 (lit≤ tt))
low_below w Ones (pos n) = mod-lt n (one-le-pow w 2 (lit≤ tt))
low_below w Twos (pos n) = mod-lt n (one-le-pow w 2 (lit≤ tt))
low_below w Ones (negsuc n) = omega (arith, one-le-pow w 2 (lit≤ tt))
low_below w Unsigned (negsuc n) = mod-lt (2 ^ w - suc n % 2 ^ w) (one-le-pow w 2 (lit≤ tt))
low_below w Twos (negsuc n) = mod-lt (2 ^ w - suc n % 2 ^ w) (one-le-pow w 2 (lit≤ tt))

pub upper_below : (p m : ℕ) → 1 ≤ m → p < m * m → p / m < m
upper_below p m some below = (div-lt_iff_lt-mul some).1 below

-- both words of a double product
pub product_below : (w : ℕ) (mode : Mode) (y x : ℕ) → ((double_product w mode y x).0 < 2 ^ w) × ((double_product w mode y x).1 < 2 ^ w)
product_below w mode y x =
    let p = low (2 * w) mode (value w mode y *ℤ value w mode x) in
    let twice : 2 ^ (2 * w) ≡ 2 ^ w * 2 ^ w = ap (λ k. 2 ^ k) (omega arith) ∙ pow-add 2 w w in
    let whole = low_below (2 * w) mode (value w mode y *ℤ value w mode x) in
    (upper_below p (2 ^ w) (one-le-pow w 2 (lit≤ tt)) (omega (arith, whole, twice)), mod-lt p (one-le-pow w 2 (lit≤ tt)))

magnitude_below : (w : ℕ) (mode : Mode) (x : ℕ) → 1 ≤ w → x < 2 ^ w → magnitude w mode x < 2 ^ w
magnitude_below w Unsigned x some below = below
magnitude_below w Ones x some below = grind (arith, nat_tests, doubled w some)
magnitude_below w Twos x some below = grind (arith, nat_tests, doubled w some)

-- a number whose square is at most a magnitude
pub root_below : (w : ℕ) (mode : Mode) (x r : ℕ) → 1 ≤ w → x < 2 ^ w → r * r ≤ magnitude w mode x → r < 2 ^ w
root_below w mode x zero some below square = one-le-pow w 2 (lit≤ tt)
root_below w mode x (suc r) some below square =
    let self_times : suc r ≤ suc r * suc r = le-mul_of_pos_right {m = suc r} (suc r) (omega arith) in
    omega (arith, square, magnitude_below w mode x some below, self_times)

-- a number that isn't below zero
pub not_negative : (v : ℤ) → (v <ℤ pos 0 → false ≡ true) → int_lt v (pos 0) ≡ false
not_negative v h = by_test (int_lt v (pos 0)) refl
  where
    by_test : (t : Bool) → int_lt v (pos 0) ≡ t → t ≡ false
    by_test true e = sym (h (omega (arith, ints)))
    by_test false e = refl
