-- How many bits a number has, and how many of them are 1.
use Rattle.std.proofs.Common.{◌≡◌, ℕ, zero, suc, ◌+◌, ◌-◌, ◌*◌, ◌/◌, ◌%◌, ◌^◌, ◌<◌, ◌≤◌, ◌==◌, Bool, true, false, nat_lt, arith, refl, ap, ◌∙◌, subst, lit≤}
use Rattle.std.proofs.Math.Nat.{pow-suc, pow-le-pow_right}
use Rattle.std.proofs.lemmas.Nat.{mod-pow-add, ones_cat, mod_below, pow_pos, leading_top, shl_below}
use Rattle.std.proofs.lemmas.Bool.Decides.{nat_tests}
use lib.Count.{ones, ones-ones, count_leading_zeros}
use Rattle.hp_model.specs.WordOperations.{bit_number, binary_length, left_shifts, ones_below}

below_tells : (a b : ℕ) → nat_lt a b ≡ true → a < b
below_tells a b e = grind (arith, nat_tests)

next_tells : (a b : ℕ) → nat_lt a b ≡ true → suc a ≤ b
next_tells a b e = grind (arith, nat_tests)

above_tells : (a b : ℕ) → nat_lt a b ≡ false → b ≤ a
above_tells a b e = grind (arith, nat_tests)

pub length_is : (k x j : ℕ) → 2 ^ j ≤ x → x < 2 ^ suc j → j < k → binary_length k x ≡ suc j
length_is zero x j from below inside = absurd (omega arith)
length_is (suc k) x j from below inside = by_test (nat_lt x (2 ^ k)) refl (λ within. length_is k x j from below within)
  where
    lower : (t : Bool) → nat_lt j k ≡ t → x < 2 ^ k → j < k
    lower true f small = below_tells j k f
    lower false f small = absurd (omega (arith, pow-le-pow_right {n = 2} (lit≤ tt) (above_tells j k f)))

    upper : (t : Bool) → nat_lt j k ≡ t → 2 ^ k ≤ x → suc k ≡ suc j
    upper true f great = absurd (omega (arith, pow-le-pow_right {n = 2} (lit≤ tt) (next_tells j k f)))
    upper false f great = let most = above_tells j k f in omega arith

    by_test : (t : Bool) → nat_lt x (2 ^ k) ≡ t → (j < k → binary_length k x ≡ suc j) → binary_length (suc k) x ≡ suc j
    by_test true e shorter = rw e (shorter (lower (nat_lt j k) refl (below_tells x (2 ^ k) e)))
    by_test false e shorter = rw e (upper (nat_lt j k) refl (above_tells x (2 ^ k) e))

one_bit : (b : ℕ) → b < 2 → ones b ≡ bit_number (b == 1)
one_bit zero small = ones-ones 0
one_bit (suc zero) small = ones-ones 1
one_bit (suc (suc b)) small = absurd (omega arith)

pub ones_are : (k x : ℕ) → ones (x % 2 ^ k) ≡ ones_below k x
ones_are zero x = let none : x % 1 ≡ 0 = omega arith in rw none (ones-ones 0)
ones_are (suc k) x =
    let split : x % 2 ^ suc k ≡ x / 2 ^ k % 2 * 2 ^ k + x % 2 ^ k = ap (λ (i : ℕ). x % 2 ^ i) (one_more k) ∙ mod-pow-add x 1 k in
    ap ones split ∙ ones_cat k (x / 2 ^ k % 2) (x % 2 ^ k) (mod_below x (2 ^ k) (pow_pos k))
    ∙ rw (one_bit (x / 2 ^ k % 2) (mod_below (x / 2 ^ k) 2 (lit≤ tt)), ones_are k x) refl
  where
    one_more : (k : ℕ) → suc k ≡ 1 + k
    one_more k = omega arith

pub below_power : (n : ℕ) → n < 2 ^ n
below_power zero = lit≤ tt
below_power (suc n) = omega (arith, below_power n, pow-suc 2 n)

-- by leading zeros of 64 bits
pub shifts_are : (w x : ℕ) → (x ≡ 0 → ⊥) → x < 2 ^ w → w ≤ 64 →
    (64 - w ≤ count_leading_zeros 64 x) × (count_leading_zeros 64 x - (64 - w) ≡ left_shifts w x) × (x * 2 ^ left_shifts w x < 2 ^ w)
shifts_are w x some small few =
    let wide : x < 2 ^ 64 = omega (arith, pow-le-pow_right {n = 2} (lit≤ tt) few) in
    from_top (leading_top 64 x (omega arith) wide)
  where
    nonzero : (x == 0) ≡ false
    nonzero = grind (arith, nat_tests)

    inside : (j : ℕ) (t : Bool) → nat_lt j w ≡ t → 2 ^ j ≤ x → j < w
    inside j true e from = below_tells j w e
    inside j false e from = absurd (omega (arith, pow-le-pow_right {n = 2} (lit≤ tt) (above_tells j w e)))

    from_top : (j : ℕ) × (count_leading_zeros 64 x + suc j ≡ 64) × (2 ^ j ≤ x) × (x < 2 ^ suc j)
        → (64 - w ≤ count_leading_zeros 64 x) × (count_leading_zeros 64 x - (64 - w) ≡ left_shifts w x) × (x * 2 ^ left_shifts w x < 2 ^ w)
    from_top (j, zeros, from, below) =
        let in_word : j < w = inside j (nat_lt j w) refl from in
        let size : binary_length w x ≡ suc j = length_is w x j from below in_word in
        let shifts : left_shifts w x ≡ w - suc j = rw (nonzero, size) refl in
        let whole : suc j + (w - suc j) ≡ w = omega arith in
        (omega arith, omega arith, rw shifts (subst (λ (k : ℕ). x * 2 ^ (w - suc j) < 2 ^ k) whole (shl_below x (suc j) (w - suc j) below)))
