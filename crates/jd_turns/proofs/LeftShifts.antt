-- The places of the model are those by which a number was moved up.
use Rattle.std.proofs.Common.{◌≡◌, ℕ, zero, suc, ◌-◌, ◌*◌, ◌^◌, ◌<◌, ◌≤◌, ◌==◌, Bool, true, false, nat_lt, arith, refl, sym, ap, ◌∙◌}
use Rattle.std.proofs.Math.Nat.{pow-suc, mul-le-mul_right, pow-le-pow_right}
use Rattle.std.proofs.lemmas.Nat.{pow-add, pow_pos}
use Rattle.std.proofs.lemmas.Bool.Decides.{nat_tests}
use Rattle.hp_model.specs.WordOperations.{binary_length, left_shifts}
use Rattle.hp_bits.proofs.Lengths.{length_is}
use Rattle.jd_shifts.specs.Moves.{Justified}

below : (x y p : ℕ) → x * p < y * p → x < y
below x y p h = by_test (nat_lt x y) refl
  where
    by_test : (t : Bool) → nat_lt x y ≡ t → x < y
    by_test true e = grind (arith, nat_tests, e)
    by_test false e = let more : y ≤ x = grind (arith, nat_tests, e) in absurd (omega (arith, mul-le-mul_right p more))

fewer : (k w : ℕ) → 2 ^ k < 2 ^ w → k < w
fewer k w h = by_test (nat_lt k w) refl
  where
    by_test : (t : Bool) → nat_lt k w ≡ t → k < w
    by_test true e = grind (arith, nat_tests, e)
    by_test false e = let more : w ≤ k = grind (arith, nat_tests, e) in absurd (omega (arith, pow-le-pow_right {n = 2} (omega arith) more))

pub shifts_are : (w x count after : ℕ) → 1 ≤ w → after < 2 ^ w → Justified w x count after → count ≡ left_shifts w x
shifts_are w zero count after some small i = i.none refl
shifts_are w (suc n) count after some small i =
    let x = suc n in
    let is : after ≡ x * 2 ^ count = i.moved in
    let top : 2 ^ w ≤ 2 * after = i.top (omega arith) in
    let one : 1 ≤ 2 ^ count = pow_pos count in
    let more : 1 * 2 ^ count ≤ x * 2 ^ count = mul-le-mul_right (2 ^ count) (omega arith) in
    let inside : count < w = fewer count w (omega arith) in
    let j = w - 1 - count in
    let power : 2 ^ w ≡ 2 ^ suc j * 2 ^ count = ap (λ (k : ℕ). 2 ^ k) (omega arith) ∙ pow-add 2 (suc j) count in
    let twice : 2 ^ suc j * 2 ^ count ≡ 2 * (2 ^ j * 2 ^ count) = ap (λ k. k * 2 ^ count) (pow-suc 2 j) ∙ doubled (2 ^ j) (2 ^ count) in
    let high : x < 2 ^ suc j = below x (2 ^ suc j) (2 ^ count) (omega arith) in
    let next : (2 ^ j) * 2 ^ count < suc x * 2 ^ count = omega arith in
    let low : 2 ^ j < suc x = below (2 ^ j) (suc x) (2 ^ count) next in
    let size : binary_length w x ≡ suc j = length_is w x j (omega arith) high (omega arith) in
    let places : w - suc j ≡ count = omega arith in
    let nonzero : (x == 0) ≡ false = grind (arith, nat_tests) in
    sym (rw (nonzero, size) places)
  where
    doubled : (p q : ℕ) → p * 2 * q ≡ 2 * (p * q)
    doubled p q = grind arith
