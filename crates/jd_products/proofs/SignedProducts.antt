-- Products and quotients as numbers with signs.
use Rattle.std.proofs.Common.{◌≡◌, ℕ, zero, suc, ◌*◌, ◌/◌, ◌%◌, ◌<◌, ◌==◌, Bool, true, false, not, refl, sym, ap, ◌∙◌, arith}
use Rattle.std.specs.Prelude.{ℤ, ◌-ℤ◌, nat_abs, int_div, int_rem, ◌+ℤ◌, ◌*ℤ◌}
use Rattle.std.proofs.lemmas.Int.{ints, quot-rem}
use Rattle.std.proofs.Math.Nat.{zero-div, zero-mod}
use Rattle.hp_model.specs.WordOperations.{rest_of, is_nonzero}
use Rattle.jd_circuit.specs.Meaning.{xor}
use Rattle.jd_rows.proofs.SignedValues.{magnitude_is}
use Rattle.jd_rows.specs.Answers.{with_sign}
use Rattle.jd_products.specs.Divisions.{DividedBy}

pub product_signed : (s t : Bool) (a b : ℕ) → with_sign s a *ℤ with_sign t b ≡ with_sign (xor s t) (a * b)
product_signed s t a b = by s t a b
  where
    none : (n : ℕ) → n * 0 ≡ 0
    none n = omega arith

    by : (s t : Bool) (a b : ℕ) → with_sign s a *ℤ with_sign t b ≡ with_sign (xor s t) (a * b)
    by false false a b = refl
    by true false a b = grind (arith, ints)
    by false true a b = grind (arith, ints)
    by true true a b = grind (arith, ints)

pub product_value : (u v : ℤ) (s t k : Bool) (a b p : ℕ) → u ≡ with_sign s a → v ≡ with_sign t b → k ≡ xor s t → p ≡ a * b → u *ℤ v ≡ with_sign k p
product_value u v s t k a b p e f g h = rw (e, f, g, h) (product_signed s t a b)

-- a quotient's magnitude and sign
pub quotient_signed : (s t : Bool) (a b : ℕ) → 0 < b → int_div (with_sign s a) (with_sign t b) ≡ with_sign (xor s t) (a / b)
quotient_signed false false a b h = refl
quotient_signed true false zero b h = rw (zero-div b) refl
quotient_signed true false (suc a) b h = refl
quotient_signed false true a zero h = absurd (omega arith)
quotient_signed false true a (suc b) h = refl
quotient_signed true true a zero h = absurd (omega arith)
quotient_signed true true zero (suc b) h = rw (zero-div (suc b)) refl
quotient_signed true true (suc a) (suc b) h = refl

remainder : (s : Bool) (a : ℕ) (d : ℤ) → int_rem (with_sign s a) d ≡ with_sign s (a % nat_abs d)
remainder false a d = refl
remainder true zero d = rw (zero-mod (nat_abs d)) refl
remainder true (suc a) d = refl

-- what a quotient leaves has the dividend's sign
pub rest_signed : (s t : Bool) (a b : ℕ) → rest_of (with_sign s a) (with_sign t b) ≡ with_sign s (a % b)
rest_signed s t a b =
    let whole : int_div (with_sign s a) (with_sign t b) *ℤ with_sign t b +ℤ int_rem (with_sign s a) (with_sign t b) ≡ with_sign s a = quot-rem (with_sign s a) (with_sign t b) in
    let left : rest_of (with_sign s a) (with_sign t b) ≡ int_rem (with_sign s a) (with_sign t b) = less (int_div (with_sign s a) (with_sign t b) *ℤ with_sign t b) _ _ whole in
    left ∙ remainder s a (with_sign t b) ∙ ap (λ n. with_sign s (a % n)) (magnitude_is (with_sign t b) t b refl)
  where
    less : (p r v : ℤ) → p +ℤ r ≡ v → v -ℤ p ≡ r
    less p r v e = omega (arith, ints)

pub divided_value : (u v : ℤ) (s t k : Bool) (a b q r : ℕ) → u ≡ with_sign s a → v ≡ with_sign t b → k ≡ xor s t → 0 < b → q ≡ a / b → r ≡ a % b → DividedBy u v k q s r
divided_value u v s t k a b q r e f g more h i = record {
  quotient = rw (e, f, g, h) (quotient_signed s t a b more);
  rest = rw (e, f, i) (rest_signed s t a b);
}

pub leaves : (v : ℤ) (t : Bool) (r : ℕ) → v ≡ with_sign t r → not (r == 0) ≡ is_nonzero v
leaves v t r e = ap (λ n. not (n == 0)) (sym (magnitude_is v t r e))
