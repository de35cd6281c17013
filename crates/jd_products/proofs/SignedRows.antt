-- Answers by signs and magnitudes are the rows.
use Rattle.std.proofs.Common.{◌≡◌, ℕ, ◌*◌, ◌+◌, ◌^◌, ◌<◌, Bool, false, not, nat_lt, refl, sym, ap, ◌∙◌, subst}
use Rattle.std.specs.Prelude.{ℤ, Some, None, ◌==◌, int_div}
use Rattle.hp_model.specs.declared.Mode.{Mode}
use Rattle.hp_model.specs.Words.{value, low, fits, magnitude}
use Rattle.hp_model.specs.WordOperations.{quotient_of, remainder_of, root_of, root, is_nonzero, double_value, double_quotient_of, double_remainder_of, rest_of}
use Rattle.jd_muldiv.specs.Steps.{Rooted}
use Rattle.jd_rows.specs.Answers.{with_sign}
use Rattle.jd_rows.proofs.SameAnswers.{same_answer, same_plain}
use Rattle.jd_rows.proofs.SignedValues.{magnitude_is}
use Rattle.jd_products.specs.Divisions.{DividedBy}
use Rattle.jd_products.proofs.SignedProducts.{leaves}
use Rattle.jd_products.proofs.WholeRoots.{root_is, root_carry}

-- a dividend and a divisor with their quotient: the pattern, the carry and the range
module _ (w v : ℕ) (mode : Mode) (dividend divisor : ℤ) (q r : ℕ) (s t : Bool) (size : v ≡ w) (d : DividedBy dividend divisor s q t r) where
  pub quotient_pattern : (p : ℕ) → p ≡ low v mode (with_sign s q) → p ≡ low w mode (int_div dividend divisor)
  quotient_pattern p e = e ∙ ap (λ k. low k mode (with_sign s q)) size ∙ ap (low w mode) (sym d.quotient)

  pub rest_pattern : (p : ℕ) → p ≡ low v mode (with_sign t r) → p ≡ low w mode (rest_of dividend divisor)
  rest_pattern p e = e ∙ ap (λ k. low k mode (with_sign t r)) size ∙ ap (low w mode) (sym d.rest)

  pub rest_carry : (k : Bool) → k ≡ not (r == 0) → k ≡ is_nonzero (rest_of dividend divisor)
  rest_carry k e = e ∙ leaves (rest_of dividend divisor) t r d.rest

  pub quotient_range : (o : Bool) → o ≡ not (fits v mode (with_sign s q)) → o ≡ not (fits w mode (int_div dividend divisor))
  quotient_range o e = e ∙ ap (λ k. not (fits k mode (with_sign s q))) size ∙ ap (λ z. not (fits w mode z)) (sym d.quotient)

-- the dividend's size
pub at_size : (n w : ℕ) (mode : Mode) (y q r : ℕ) (divisor : ℤ) (s t : Bool) → n ≡ w → DividedBy (value n mode y) divisor s q t r → DividedBy (value w mode y) divisor s q t r
at_size n w mode y q r divisor s t e d = subst (λ k. DividedBy (value k mode y) divisor s q t r) e d

pub quotient_row : (w v n : ℕ) (mode : Mode) (y x q r p : ℕ) (s t k o : Bool) → v ≡ w → n ≡ w → DividedBy (value n mode y) (value w mode x) s q t r
    → p ≡ low v mode (with_sign s q) → k ≡ not (r == 0) → o ≡ not (fits v mode (with_sign s q))
    → record { pattern = p; carry = Some k; range = Some o } ≡ quotient_of w mode y x
quotient_row w v n mode y x q r p s t k o ev en d ep ek eo =
    let f = at_size n w mode y q r (value w mode x) s t en d in
    same_answer _ _ _ _ _ _ (quotient_pattern w v mode _ _ q r s t ev f p ep) (rest_carry w v mode _ _ q r s t ev f k ek) (quotient_range w v mode _ _ q r s t ev f o eo)

pub remainder_row : (w v n : ℕ) (mode : Mode) (y x q r p : ℕ) (s t : Bool) → v ≡ w → n ≡ w → DividedBy (value n mode y) (value w mode x) s q t r
    → p ≡ low v mode (with_sign t r) → record { pattern = p; carry = None; range = None } ≡ remainder_of w mode y x
remainder_row w v n mode y x q r p s t ev en d ep = same_plain _ _ (rest_pattern w v mode _ _ q r s t ev (at_size n w mode y q r (value w mode x) s t en d) p ep)

-- double words
pub double_at : (n w : ℕ) (mode : Mode) (y u l q r : ℕ) (divisor : ℤ) (s t : Bool) → n ≡ 2 * w → y ≡ u * 2 ^ w + l
    → DividedBy (value n mode y) divisor s q t r → DividedBy (double_value w mode u l) divisor s q t r
double_at n w mode y u l q r divisor s t e f d =
    subst (λ m. DividedBy (value (2 * w) mode m) divisor s q t r) f (subst (λ k. DividedBy (value k mode y) divisor s q t r) e d)

pub double_quotient_row : (w v : ℕ) (mode : Mode) (u l x q r p : ℕ) (s t k : Bool) → v ≡ w → DividedBy (double_value w mode u l) (value w mode x) s q t r
    → p ≡ low v mode (with_sign s q) → k ≡ not (r == 0)
    → record { pattern = p; carry = Some k; range = Some false } ≡ double_quotient_of w mode u l x
double_quotient_row w v mode u l x q r p s t k ev d ep ek =
    same_answer _ _ _ _ _ _ (quotient_pattern w v mode _ _ q r s t ev d p ep) (rest_carry w v mode _ _ q r s t ev d k ek) refl

pub double_remainder_row : (w v : ℕ) (mode : Mode) (u l x q r p : ℕ) (s t : Bool) → v ≡ w → DividedBy (double_value w mode u l) (value w mode x) s q t r
    → p ≡ low v mode (with_sign t r) → record { pattern = p; carry = None; range = None } ≡ double_remainder_of w mode u l x
double_remainder_row w v mode u l x q r p s t ev d ep = same_plain _ _ (rest_pattern w v mode _ _ q r s t ev d p ep)

-- roots
same_root : (n m p : ℕ) (k : Bool) → n ≡ m → p ≡ root m → k ≡ nat_lt (p * p) m → k ≡ nat_lt (root n * root n) n
same_root n m p k e f g = g ∙ ap (λ r. nat_lt (r * r) m) f ∙ ap (λ i. nat_lt (root i * root i) i) (sym e)

pub root_row : (w : ℕ) (mode : Mode) (x m p r : ℕ) (s k : Bool) → m < 2 ^ 64 → value w mode x ≡ with_sign s m → Rooted m p r → k ≡ not (r == 0)
    → record { pattern = p; carry = Some k; range = Some false } ≡ root_of w mode x
root_row w mode x m p r s k small e i ek =
    let is : magnitude w mode x ≡ m = magnitude_is (value w mode x) s m e in
    let whole : p ≡ root m = root_is m p r small i in
    same_answer p (root (magnitude w mode x)) k (nat_lt (root (magnitude w mode x) * root (magnitude w mode x)) (magnitude w mode x)) false false
    (whole ∙ ap root (sym is)) (same_root (magnitude w mode x) m p k is whole (ek ∙ sym (root_carry m p r i))) refl
