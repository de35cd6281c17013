-- One bit set or cleared.
use Rattle.std.proofs.Common.{◌≡◌, ℕ, zero, suc, ◌+◌, ◌-◌, ◌*◌, ◌/◌, ◌%◌, ◌^◌, ◌<◌, ◌==◌, Bool, true, false, bit_and, bit_or, arith, refl, sym, ap, ◌∙◌, lit≤}
use Rattle.std.proofs.lemmas.Nat.{or_block, and_block, and-not, and_comm, and_mask, shr_split, mod_below, pow_pos, pow_below}
use Rattle.std.specs.Int.Bits.{or_zero_r, and_zero_l}
use Rattle.std.proofs.lemmas.Bool.Decides.{nat_tests}
use Rattle.hp_model.specs.Words.{bit}
use Rattle.hp_model.specs.WordOperations.{with_bit, without_bit}

one_or : (b : ℕ) → b < 2 → bit_or b 1 ≡ 1
one_or zero small = refl
one_or (suc zero) small = refl
one_or (suc (suc b)) small = absurd (omega arith)

or_one : (n : ℕ) → bit_or n 1 ≡ n / 2 * 2 + 1
or_one n =
    ap (λ (v : ℕ). bit_or v 1) (sym (shr_split n 1)) ∙ or_block 1 (n / 2) 0 (n % 2) 1 (mod_below n 2 (lit≤ tt)) (lit≤ tt)
    ∙ rw (or_zero_r (n / 2), one_or (n % 2) (mod_below n 2 (lit≤ tt))) refl

odd_tells : (n : ℕ) → (n % 2 == 1) ≡ true → n / 2 * 2 + 1 ≡ n
odd_tells n e = grind (arith, nat_tests)

even_tells : (n : ℕ) → (n % 2 == 1) ≡ false → n / 2 * 2 + 1 ≡ n + 1
even_tells n e = grind (arith, nat_tests)

one_more : (n power rest : ℕ) → (n + 1) * power + rest ≡ (n * power + rest) + power
one_more n power rest = grind arith

pub set_is : (y k : ℕ) → bit_or y (2 ^ k) ≡ with_bit y k
set_is y k = by_bit (bit y k) refl
  where
    power : 2 ^ k ≡ 1 * 2 ^ k + 0
    power = omega arith

    whole : bit_or y (2 ^ k) ≡ bit_or (y / 2 ^ k) 1 * 2 ^ k + y % 2 ^ k
    whole =
        ap (λ (v : ℕ). bit_or v (2 ^ k)) (sym (shr_split y k)) ∙ ap (λ (v : ℕ). bit_or (y / 2 ^ k * 2 ^ k + y % 2 ^ k) v) power
        ∙ or_block k (y / 2 ^ k) 1 (y % 2 ^ k) 0 (mod_below y (2 ^ k) (pow_pos k)) (pow_pos k)
        ∙ ap (λ (v : ℕ). bit_or (y / 2 ^ k) 1 * 2 ^ k + v) (or_zero_r (y % 2 ^ k))

    by_bit : (t : Bool) → bit y k ≡ t → bit_or y (2 ^ k) ≡ with_bit y k
    by_bit true e = rw e (whole ∙ ap (λ (v : ℕ). v * 2 ^ k + y % 2 ^ k) (or_one (y / 2 ^ k) ∙ odd_tells (y / 2 ^ k) e) ∙ shr_split y k)
    by_bit false e = rw e (whole ∙ ap (λ (v : ℕ). v * 2 ^ k + y % 2 ^ k) (or_one (y / 2 ^ k) ∙ even_tells (y / 2 ^ k) e)
        ∙ one_more (y / 2 ^ k) (2 ^ k) (y % 2 ^ k) ∙ ap (λ (v : ℕ). v + 2 ^ k) (shr_split y k))

-- the bits of a number that are in 2 ^ k
and_power : (y k : ℕ) → bit_and (2 ^ k) y ≡ y / 2 ^ k % 2 * 2 ^ k
and_power y k =
    ap (λ (v : ℕ). bit_and (2 ^ k) v) (sym (shr_split y k)) ∙ ap (λ (v : ℕ). bit_and v (y / 2 ^ k * 2 ^ k + y % 2 ^ k)) power
    ∙ and_block k 1 (y / 2 ^ k) 0 (y % 2 ^ k) (pow_pos k) (mod_below y (2 ^ k) (pow_pos k))
    ∙ rw (and_zero_l (y % 2 ^ k)) (ap (λ (v : ℕ). v * 2 ^ k + 0) (and_comm 1 (y / 2 ^ k) ∙ and_mask (y / 2 ^ k) 1) ∙ omega arith)
  where
    power : 2 ^ k ≡ 1 * 2 ^ k + 0
    power = omega arith

pub cleared_is : (y k : ℕ) → k < 64 → y < 2 ^ 64 → bit_and y (2 ^ 64 - 1 - 2 ^ k) ≡ without_bit y k
cleared_is y k inside small = by_bit (y / 2 ^ k % 2) refl (mod_below (y / 2 ^ k) 2 (lit≤ tt))
  where
    parts : bit_and y (2 ^ 64 - 1 - 2 ^ k) + y / 2 ^ k % 2 * 2 ^ k ≡ y
    parts = rw (and_comm y (2 ^ 64 - 1 - 2 ^ k), ← and_power y k) (and-not 64 (2 ^ k) y (pow_below k 64 inside) small)

    by_bit : (b : ℕ) → y / 2 ^ k % 2 ≡ b → b < 2 → bit_and y (2 ^ 64 - 1 - 2 ^ k) ≡ without_bit y k
    by_bit zero e small' = let left = rw e at parts in rw e (omega arith)
    by_bit (suc zero) e small' = let left = rw e at parts in rw e (omega arith)
    by_bit (suc (suc b)) e small' = absurd (omega arith)
