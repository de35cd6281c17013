use Rattle.std.proofs.Common.{arith, lit≤}
use Rattle.std.proofs.Math.Nat.{pow-le-pow_right}
use Rattle.hp_core.proofs.words.one.Goals as goal

pub new-requires : goal.new-requires
new-requires c = omega (arith, pow-le-pow_right {n = 2} (lit≤ tt) c.args.machine.now.control.size.at_least_one)
