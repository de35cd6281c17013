-- A register reads what was written to it.
use Rattle.std.proofs.Common.{◌≡◌, ℕ, zero, suc, ◌+◌, ◌-◌, ◌*◌, ◌/◌, ◌%◌, ◌^◌, ◌≤◌, ◌<◌, true, List, length, slice_index, refl, ap, arith, ◌∙◌, lit≤}
use Rattle.std.proofs.lemmas.Bool.Decides.{nat_tests}
use Rattle.std.proofs.Math.Nat.{pow-suc, mod-eq_of_lt, one-le-pow, pow-le-pow_right}
use Rattle.std.proofs.Math.Arith.{mod-mul}
use Rattle.std.proofs.lemmas.Nat.{pow-add}
use Rattle.hp_model.specs.State.{width}
use Rattle.hp_model.specs.Memory.{nibble_sum, register_value, is_of_register, nibble_written, with_register}
use Rattle.hp_model.proofs.Tabulated.{get-tabulated}

-- sums of the same nibbles
pub same_sum : (f g : ℕ → ℕ) (k : ℕ) → ((j : ℕ) → j < k → f j ≡ g j) → nibble_sum f k ≡ nibble_sum g k
same_sum f g zero h = refl
same_sum f g (suc k) h =
    let last : f k ≡ g k = h k (omega arith) in
    rw (last, same_sum f g k (λ j below. h j (omega arith))) refl

-- the digits of a number to the base 16 sum up to it, but for what is above them
sum_of_digits : (v k : ℕ) → nibble_sum (λ j. v / 16 ^ j % 16) k ≡ v % 16 ^ k
sum_of_digits v zero = omega arith
sum_of_digits v (suc k) =
    let parts : v % (16 * 16 ^ k) ≡ v / 16 ^ k % 16 * 16 ^ k + v % 16 ^ k = mod-mul v (lit≤ tt) (one-le-pow k 16 (lit≤ tt)) in
    let whole : 16 * 16 ^ k ≡ 16 ^ suc k = omega (arith, pow-suc 16 k) in
    rw (sum_of_digits v k) (omega (arith, parts, ap (λ n. v % n) whole))

-- so many nibbles hold w bits
power_of_nibbles : (k : ℕ) → 2 ^ (4 * k) ≡ 16 ^ k
power_of_nibbles zero = refl
power_of_nibbles (suc k) =
    let e : 4 * suc k ≡ 4 * k + 4 = omega arith in
    ap (λ n. 2 ^ n) e ∙ pow-add 2 (4 * k) 4 ∙ omega (arith, power_of_nibbles k, pow-suc 16 k)

power_holds : (w : ℕ) → 2 ^ w ≤ 16 ^ width w
power_holds w =
    let enough : w ≤ 4 * width w = omega arith in
    let two : 1 ≤ 2 = lit≤ tt in
    omega (arith, pow-le-pow_right {n = 2} two enough, power_of_nibbles (width w))

of_register : (w r k : ℕ) → k < width w → is_of_register w r (width w * r + k) ≡ true
of_register w r k below = grind (arith, nat_tests)

-- registers over the same nibbles
pub same_register : (w r : ℕ) (a b : List ℕ) → ((j : ℕ) → is_of_register w r j ≡ true → slice_index a j ≡ slice_index b j) → register_value w a r ≡ register_value w b r
same_register w r a b h =
    ap (λ n. n % 2 ^ w) (same_sum (λ k. slice_index a (width w * r + k)) (λ k. slice_index b (width w * r + k)) (width w)
    (λ k below. h (width w * r + k) (of_register w r k below)))

written_digit : (w : ℕ) (nibbles : List ℕ) (r v k : ℕ) → width w * r + width w ≤ length nibbles → k < width w
    → slice_index (with_register w nibbles r v) (width w * r + k) ≡ v / 16 ^ k % 16
written_digit w nibbles r v k inside below =
    let place : width w * r + k - width w * r ≡ k = omega arith in
    get-tabulated (nibble_written w nibbles r v) (length nibbles) (width w * r + k) (omega arith) ∙ rw (of_register w r k below, place) refl

pub read_written : (w : ℕ) (nibbles : List ℕ) (r v : ℕ) → width w * r + width w ≤ length nibbles → v < 2 ^ w → register_value w (with_register w nibbles r v) r ≡ v
read_written w nibbles r v inside small =
    let digits : nibble_sum (λ k. slice_index (with_register w nibbles r v) (width w * r + k)) (width w) ≡ nibble_sum (λ k. v / 16 ^ k % 16) (width w) =
    same_sum _ _ (width w) (λ k below. written_digit w nibbles r v k inside below) in
    let kept : v % 16 ^ width w ≡ v = mod-eq_of_lt (omega (arith, power_holds w)) in
    ap (λ n. n % 2 ^ w) (digits ∙ sum_of_digits v (width w) ∙ kept) ∙ mod-eq_of_lt small
