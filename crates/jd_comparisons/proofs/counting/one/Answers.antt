use Rattle.std.proofs.Common.{◌^◌, ◌≤◌, arith, lit≤}
use Rattle.std.proofs.Math.Nat.{pow-le-pow_right}
use Rattle.jd_comparisons.proofs.counting.one.Goals as goal

pub constant-requires-clause-small : goal.constant-requires-clause-small
constant-requires-clause-small c =
    let some : 1 ≤ c.len.result = rw c.len.ensures.len c.requires.some in
    let power : 2 ^ 1 ≤ 2 ^ c.len.result = pow-le-pow_right {n = 2} (lit≤ tt) some in
    omega arith
