use Rattle.std.proofs.Common.{ℕ, ◌^◌, ◌<◌, ◌≤◌, arith, lit≤}
use Rattle.std.proofs.Math.Nat.{pow-le-pow_right}
use Rattle.hp_control.proofs.answers.number_given.Goals as goal

-- one answer fewer than are given are the bits
fewer : (m k r : ℕ) → m ≤ k → r < 2 ^ m → r < 2 ^ k
fewer m k r h below =
    let powers : 2 ^ m ≤ 2 ^ k = pow-le-pow_right {n = 2} (lit≤ tt) h in
    omega arith

pub returns-in-len1-up-clause-bound : goal.returns-in-len1-up-clause-bound
returns-in-len1-up-clause-bound c = λ k h. fewer _ k _ (omega arith) c.number_of_bits.ensures.bound
