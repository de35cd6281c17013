-- Values compared as whole numbers.
use Rattle.std.proofs.Common.{◌≡◌, ℕ, ◌+◌, ◌-◌, ◌*◌, ◌^◌, ◌<◌, ◌≤◌, Bool, true, false, not, ◌&&◌, ◌==◌, nat_lt, nat_le, refl, sym, ◌∙◌, arith}
use Rattle.std.specs.Prelude.{pos, ◌-ℤ◌, nat_abs, int_lt, int_le, if◌then◌else◌}
use Rattle.std.proofs.lemmas.Bool.Decides.{nat_tests}
use Rattle.std.proofs.lemmas.Int.{ints}
use Rattle.hp_model.specs.declared.Mode.{Mode}
use Rattle.hp_model.specs.declared.Mode.TheVariants.{Unsigned, Ones, Twos}
use Rattle.hp_model.specs.Words.{value}
use Rattle.jd_rows.proofs.Range.{double_half, over, value_as}
use Rattle.jd_comparisons.specs.Raised.{raised}

-- ---- differences of whole numbers

apart_below : (a b c d : ℕ) → int_lt (pos a -ℤ pos b) (pos c -ℤ pos d) ≡ nat_lt (a + d) (c + b)
apart_below a b c d = grind (arith, ints, nat_tests)

apart_most : (a b c d : ℕ) → int_le (pos a -ℤ pos b) (pos c -ℤ pos d) ≡ nat_le (a + d) (c + b)
apart_most a b c d = grind (arith, ints, nat_tests)

apart_zero : (a b : ℕ) → (nat_abs (pos a -ℤ pos b) == 0) ≡ (a == b)
apart_zero a b = grind (arith, ints, nat_tests)

values_below : (w : ℕ) (mode : Mode) (y x : ℕ) → int_lt (value w mode y) (value w mode x) ≡ nat_lt (y + over w mode x) (x + over w mode y)
values_below w mode y x = rw (value_as w mode y, value_as w mode x) (apart_below y (over w mode y) x (over w mode x))

abbrev AreEqual : ℕ → Mode → ℕ → ℕ → Bool
AreEqual w mode y x = int_le (value w mode x) (value w mode y) && int_le (value w mode y) (value w mode x)

values_equal : (w : ℕ) (mode : Mode) (y x : ℕ) → AreEqual w mode y x ≡ (nat_le (x + over w mode y) (y + over w mode x) && nat_le (y + over w mode x) (x + over w mode y))
values_equal w mode y x = rw (value_as w mode y, value_as w mode x, apart_most x (over w mode x) y (over w mode y), apart_most y (over w mode y) x (over w mode x)) refl

value_zero : (w : ℕ) (mode : Mode) (y : ℕ) → (nat_abs (value w mode y) == 0) ≡ (y == over w mode y)
value_zero w mode y = rw (value_as w mode y) (apart_zero y (over w mode y))

-- ---- orders, by whether the top bits are 0

module _ (H M y x : ℕ) (e : M ≡ 2 * H) (h : y < M) (i : x < M) where
  twos_by : (a b : Bool) → nat_lt y H ≡ a → nat_lt x H ≡ b
      → nat_lt (if a then y + H else y - H) (if b then x + H else x - H) ≡ nat_lt (y + (if b then 0 else M)) (x + (if a then 0 else M))
  twos_by true true f g = grind (arith, nat_tests)
  twos_by true false f g = grind (arith, nat_tests)
  twos_by false true f g = grind (arith, nat_tests)
  twos_by false false f g = grind (arith, nat_tests)

  ones_by : (a b : Bool) → nat_lt y H ≡ a → nat_lt x H ≡ b
      → (nat_lt (if a then y + H else y - H) (if b then x + H else x - H) && not ((y == (if a then 0 else M - 1)) && (x == (if b then 0 else M - 1))))
      ≡ nat_lt (y + (if b then 0 else M - 1)) (x + (if a then 0 else M - 1))
  ones_by true true f g = grind (arith, nat_tests)
  ones_by true false f g = grind (arith, nat_tests)
  ones_by false true f g = grind (arith, nat_tests)
  ones_by false false f g = grind (arith, nat_tests)

  twos_same_by : (a b : Bool) → nat_lt y H ≡ a → nat_lt x H ≡ b
      → (y == x) ≡ (nat_le (x + (if a then 0 else M)) (y + (if b then 0 else M)) && nat_le (y + (if b then 0 else M)) (x + (if a then 0 else M)))
  twos_same_by true true f g = grind (arith, nat_tests)
  twos_same_by true false f g = grind (arith, nat_tests)
  twos_same_by false true f g = grind (arith, nat_tests)
  twos_same_by false false f g = grind (arith, nat_tests)

  ones_same_by : (a b : Bool) → nat_lt y H ≡ a → nat_lt x H ≡ b
      → not (not (y == x) && not ((y == (if a then 0 else M - 1)) && (x == (if b then 0 else M - 1))))
      ≡ (nat_le (x + (if a then 0 else M - 1)) (y + (if b then 0 else M - 1)) && nat_le (y + (if b then 0 else M - 1)) (x + (if a then 0 else M - 1)))
  ones_same_by true true f g = grind (arith, nat_tests)
  ones_same_by true false f g = grind (arith, nat_tests)
  ones_same_by false true f g = grind (arith, nat_tests)
  ones_same_by false false f g = grind (arith, nat_tests)

-- ---- words

pub below_unsigned : (w y x : ℕ) → nat_lt y x ≡ int_lt (value w Unsigned y) (value w Unsigned x)
below_unsigned w y x = grind (arith, ints, nat_tests)

pub below_twos : (w y x : ℕ) → 1 ≤ w → y < 2 ^ w → x < 2 ^ w → nat_lt (raised (2 ^ (w - 1)) y) (raised (2 ^ (w - 1)) x) ≡ int_lt (value w Twos y) (value w Twos x)
below_twos w y x some h i = twos_by (2 ^ (w - 1)) (2 ^ w) y x (double_half w some) h i _ _ refl refl ∙ sym (values_below w Twos y x)

pub below_ones : (w y x : ℕ) → 1 ≤ w → y < 2 ^ w → x < 2 ^ w
    → (nat_lt (raised (2 ^ (w - 1)) y) (raised (2 ^ (w - 1)) x) && not ((nat_abs (value w Ones y) == 0) && (nat_abs (value w Ones x) == 0)))
    ≡ int_lt (value w Ones y) (value w Ones x)
below_ones w y x some h i = rw (value_zero w Ones y, value_zero w Ones x)
    (ones_by (2 ^ (w - 1)) (2 ^ w) y x (double_half w some) h i _ _ refl refl ∙ sym (values_below w Ones y x))

pub equal_unsigned : (w y x : ℕ) → (y == x) ≡ AreEqual w Unsigned y x
equal_unsigned w y x = grind (arith, ints, nat_tests)

pub equal_twos : (w y x : ℕ) → 1 ≤ w → y < 2 ^ w → x < 2 ^ w → (y == x) ≡ AreEqual w Twos y x
equal_twos w y x some h i = twos_same_by (2 ^ (w - 1)) (2 ^ w) y x (double_half w some) h i _ _ refl refl ∙ sym (values_equal w Twos y x)

pub equal_ones : (w y x : ℕ) → 1 ≤ w → y < 2 ^ w → x < 2 ^ w
    → not (not (y == x) && not ((nat_abs (value w Ones y) == 0) && (nat_abs (value w Ones x) == 0))) ≡ AreEqual w Ones y x
equal_ones w y x some h i = rw (value_zero w Ones y, value_zero w Ones x)
    (ones_same_by (2 ^ (w - 1)) (2 ^ w) y x (double_half w some) h i _ _ refl refl ∙ sym (values_equal w Ones y x))
