-- Masks and single bits.
use Rattle.std.proofs.Common.{◌≡◌, ℕ, zero, suc, ◌+◌, ◌-◌, ◌*◌, ◌/◌, ◌%◌, ◌^◌, ◌<◌, ◌≤◌, ◌==◌, not, bit_and, arith, refl, sym, ap, ◌∙◌, lit≤}
use Rattle.std.proofs.lemmas.Nat.{and_block, and-not, and_comm, and_mask, shr_split, mod_below, pow_pos, pow_below, mod-mul-add}
use Rattle.std.proofs.Math.Nat.{mod-eq_of_lt, pow-le-pow_right}
use Rattle.std.specs.Int.Bits.{and_zero_l}
use Rattle.std.proofs.lemmas.Bool.Decides.{nat_tests}
use Rattle.hp_model.specs.Words.{bit}
use Rattle.hp_model.specs.WordOperations.{without_bit}

spread : (a r : ℕ) → (a + r) * (a + 1) ≡ a * (a + r + 1) + r
spread a r = grind arith

split : (M p : ℕ) → 1 ≤ p → p ≤ M → (M - 1) * p ≡ (p - 1) * M + (M - p)
split M p h i =
    let less : M - 1 ≡ (p - 1) + (M - p) = omega arith in
    let next : p ≡ p - 1 + 1 = omega arith in
    let whole : M ≡ (p - 1) + (M - p) + 1 = omega arith in
    ap (λ k. k * p) less ∙ ap (λ k. (p - 1 + (M - p)) * k) next ∙ spread (p - 1) (M - p) ∙ ap (λ k. (p - 1) * k + (M - p)) (sym whole)

-- all ones moved up
pub moved_ones : (w m : ℕ) → m ≤ w → (2 ^ w - 1) * 2 ^ m % 2 ^ w ≡ 2 ^ w - 2 ^ m
moved_ones w m h =
    let inside : 2 ^ m ≤ 2 ^ w = pow-le-pow_right {n = 2} (lit≤ tt) h in
    ap (λ k. k % 2 ^ w) (split (2 ^ w) (2 ^ m) (pow_pos m) inside) ∙ mod-mul-add (2 ^ m - 1) (2 ^ w) (2 ^ w - 2 ^ m) (omega (arith, pow_pos m, pow_pos w))

pub moved_one : (w m : ℕ) → m < w → 2 ^ 0 * 2 ^ m % 2 ^ w ≡ 2 ^ m
moved_one w m h = let e : 2 ^ 0 * 2 ^ m ≡ 2 ^ m = omega arith in rw e (mod-eq_of_lt (pow_below m w h))

pub mask_from : (w m r u : ℕ) → m ≤ w → u ≡ 2 ^ w - 2 ^ m → r + u + 1 ≡ 2 ^ w → r ≡ 2 ^ m - 1
mask_from w m r u h e i = let small : 2 ^ m ≤ 2 ^ w = pow-le-pow_right {n = 2} (lit≤ tt) h in omega (arith, pow_pos m)

and_power : (y k : ℕ) → bit_and (2 ^ k) y ≡ y / 2 ^ k % 2 * 2 ^ k
and_power y k =
    ap (λ (v : ℕ). bit_and (2 ^ k) v) (sym (shr_split y k)) ∙ ap (λ (v : ℕ). bit_and v (y / 2 ^ k * 2 ^ k + y % 2 ^ k)) power
    ∙ and_block k 1 (y / 2 ^ k) 0 (y % 2 ^ k) (pow_pos k) (mod_below y (2 ^ k) (pow_pos k))
    ∙ rw (and_zero_l (y % 2 ^ k)) (ap (λ (v : ℕ). v * 2 ^ k + 0) (and_comm 1 (y / 2 ^ k) ∙ and_mask (y / 2 ^ k) 1) ∙ omega arith)
  where
    power : 2 ^ k ≡ 1 * 2 ^ k + 0
    power = omega arith

pub cleared_is : (w y k : ℕ) → k < w → y < 2 ^ w → bit_and y (2 ^ w - 1 - 2 ^ k) ≡ without_bit y k
cleared_is w y k inside small = by_bit (y / 2 ^ k % 2) refl (mod_below (y / 2 ^ k) 2 (lit≤ tt))
  where
    parts : bit_and y (2 ^ w - 1 - 2 ^ k) + y / 2 ^ k % 2 * 2 ^ k ≡ y
    parts = rw (and_comm y (2 ^ w - 1 - 2 ^ k), ← and_power y k) (and-not w (2 ^ k) y (pow_below k w inside) small)

    by_bit : (b : ℕ) → y / 2 ^ k % 2 ≡ b → b < 2 → bit_and y (2 ^ w - 1 - 2 ^ k) ≡ without_bit y k
    by_bit zero e small' = let left = rw e at parts in rw e (omega arith)
    by_bit (suc zero) e small' = let left = rw e at parts in rw e (omega arith)
    by_bit (suc (suc b)) e small' = absurd (omega arith)

pub cleared_from : (w y k o r one : ℕ) → k < w → y < 2 ^ w → one ≡ 2 ^ k → o + one + 1 ≡ 2 ^ w → r ≡ bit_and y o → r ≡ without_bit y k
cleared_from w y k o r one inside small e f g =
    let others : o ≡ 2 ^ w - 1 - 2 ^ k = omega arith in
    g ∙ ap (bit_and y) others ∙ cleared_is w y k inside small

pub tested : (y k : ℕ) → not (bit_and (2 ^ k) y == 0) ≡ bit y k
tested y k = rw (and_power y k) (by (y / 2 ^ k % 2) (mod_below (y / 2 ^ k) 2 (lit≤ tt)) (pow_pos k))
  where
    by : (b : ℕ) → b < 2 → 1 ≤ 2 ^ k → not (b * 2 ^ k == 0) ≡ (b == 1)
    by zero h i = let e : 0 * 2 ^ k ≡ 0 = omega arith in rw e refl
    by (suc zero) h i = let e : 1 * 2 ^ k ≡ 2 ^ k = omega arith in rw e (grind (arith, nat_tests))
    by (suc (suc b)) h i = absurd (omega arith)
