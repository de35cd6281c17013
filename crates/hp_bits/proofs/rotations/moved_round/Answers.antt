use Rattle.std.proofs.Common.{◌^◌, ◌<◌, arith, lit≤}
use Rattle.std.proofs.Math.Nat.{pow-le-pow_right}
use Rattle.hp_bits.specs.Places.{moved_round}
use Rattle.hp_bits.proofs.Rounds.{round_small, by_shifts}
use Rattle.hp_bits.proofs.rotations.moved_round.Goals as goal

small : (c : goal.Start) → moved_round c.args.bits c.args.n c.args.number < 2 ^ c.args.bits
small c = round_small c.args.bits c.args.n c.args.number c.requires.count c.requires.inside

pub overflow_add-result : goal.overflow_add-result
overflow_add-result c =
    rw (by_shifts c.args.number c.args.bits c.args.n c.requires.few c.requires.count) (omega (arith, small c, pow-le-pow_right {n = 2} (lit≤ tt) c.requires.few))

pub returns-clause-value : goal.returns-clause-value
returns-clause-value c = by_shifts c.args.number c.args.bits c.args.n c.requires.few c.requires.count

pub returns-clause-bound : goal.returns-clause-bound
returns-clause-bound c = rw (by_shifts c.args.number c.args.bits c.args.n c.requires.few c.requires.count) (small c)
