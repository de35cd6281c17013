use Rattle.std.proofs.Common.{◌≡◌, ◌*◌, ◌%◌, ◌^◌, ◌<◌, arith, lit≤}
use Rattle.std.proofs.Math.Nat.{pow-le-pow_right}
use Rattle.std.proofs.lemmas.Nat.{one_shl}
use Rattle.hp_bits.proofs.SingleBits.{cleared_is}
use Rattle.hp_bits.proofs.single_bits.clear_bit.Goals as goal

pub returns-clause-value : goal.returns-clause-value
returns-clause-value c =
    let told = c.in_ok-n.ensures in
    let inside : c.in_ok-n.n < 64 = omega (arith, told.bound, c.args.x.size.at_most_64) in
    let one : 1 * 2 ^ c.in_ok-n.n % 2 ^ 64 ≡ 2 ^ c.in_ok-n.n = one_shl c.in_ok-n.n 64 inside in
    let small : c.args.y.pattern < 2 ^ 64 = omega (arith, c.args.y.in_range, pow-le-pow_right {n = 2} (lit≤ tt) c.args.y.size.at_most_64) in
    rw (one, ← told.value) (cleared_is c.args.y.pattern c.in_ok-n.n inside small)
