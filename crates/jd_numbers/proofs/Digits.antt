-- The range of a number of so many digits.
use Rattle.std.proofs.Common.{◌≡◌, ℕ, suc, ◌+◌, ◌*◌, ◌^◌, ◌<◌, ◌≤◌, arith}
use Rattle.std.proofs.Math.Nat.{pow-suc, pow-le-pow_right, mul-le-mul_right}

module _ (base most n i : ℕ) (some : 1 ≤ base) (below : n < base ^ i) where
  pub within-power : i ≤ most → n < base ^ most
  within-power inside = let power : base ^ i ≤ base ^ most = pow-le-pow_right some inside in omega arith

  -- a digit more
  pub digit-within : (limit digit : ℕ) → digit < base → i < most → base ^ most ≤ limit → n * base + digit < limit
  digit-within limit digit is_digit inside within =
      let power : base ^ suc i ≤ base ^ most = pow-le-pow_right some inside in
      let next : base ^ suc i ≡ base ^ i * base = pow-suc base i in
      let product : suc n * base ≤ base ^ i * base = mul-le-mul_right base below in
      let one_more : suc n * base ≡ n * base + base = omega arith in
      omega arith
