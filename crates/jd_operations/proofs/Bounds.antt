-- The gates of a row at the greatest word size.
use Rattle.std.proofs.Common.{ℕ, ◌*◌, ◌≤◌}
use Rattle.std.proofs.Math.Nat.{mul-le-mul_left}

pub squares : (k n : ℕ) → n ≤ 64 → k * n * n ≤ k * n * 64
squares k n h = mul-le-mul_left (k * n) h

pub rectangles : (k n : ℕ) (m : ℕ) → m ≤ 66 → k * n * m ≤ k * n * 66
rectangles k n m h = mul-le-mul_left (k * n) h
