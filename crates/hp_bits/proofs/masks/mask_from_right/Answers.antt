use Rattle.std.proofs.Common.{◌≡◌, ◌*◌, ◌%◌, ◌^◌, arith, lit≤}
use Rattle.std.proofs.Math.Nat.{pow-le-pow_right}
use Rattle.std.proofs.lemmas.Nat.{one_shl, pow_pos}
use Rattle.hp_bits.proofs.masks.mask_from_right.Goals as goal

pub returns-clause-bound : goal.returns-clause-bound
returns-clause-bound c =
    let one : 1 * 2 ^ c.args.n % 2 ^ 128 ≡ 2 ^ c.args.n = one_shl c.args.n 128 (omega (arith, c.args.size.at_most_64)) in
    rw one (omega (arith, pow-le-pow_right {n = 2} (lit≤ tt) c.requires, pow_pos c.args.n))
