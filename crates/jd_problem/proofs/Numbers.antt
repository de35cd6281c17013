-- The number of bits, one bit more at the front.
use Rattle.std.proofs.Common.{◌≡◌, ℕ, suc, ◌+◌, ◌-◌, ◌*◌, ◌<◌, ◌≤◌, ◌^◌, Bool, false, List, length, get_or, drop, ap, arith}
use Rattle.std.proofs.Math.Nat.{pow-suc}
use Rattle.std.proofs.lemmas.List.{at_drop_more}
use Rattle.hp_model.specs.WordOperations.{bit_number}
use Rattle.hp_model.specs.Words.{number_of_bits}

module _ (bits : List Bool) (left number : ℕ) (some : 0 < left) (within : left ≤ length bits) where
  pub number-turn : number ≡ number_of_bits (drop left bits) → 2 * number + bit_number (get_or bits (left - 1) false) ≡ number_of_bits (drop (left - 1) bits)
  number-turn e =
      let bit = bit_number (get_or bits (left - 1) false) in
      let here : number_of_bits (drop (left - 1) bits) ≡ bit + 2 * number_of_bits (drop (left - 1 + 1) bits) = at_drop_more number_of_bits bits (left - 1) false (omega arith) in
      let back : left - 1 + 1 ≡ left = omega arith in
      let same = ap (λ k. number_of_bits (drop k bits)) back in
      omega (arith, here, same, e)

  pub bound-turn : (bit : ℕ) → bit ≤ 1 → number < 2 ^ (length bits - left) → 2 * number + bit < 2 ^ (length bits - (left - 1))
  bound-turn bit one h =
      let next : length bits - (left - 1) ≡ suc (length bits - left) = omega arith in
      let power = ap (λ k. 2 ^ k) next in
      omega (arith, power, pow-suc 2 (length bits - left))
