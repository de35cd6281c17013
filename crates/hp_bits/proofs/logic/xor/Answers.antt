use Rattle.std.proofs.Common.{ℕ, ◌^◌, ◌<◌, subst}
use Rattle.std.proofs.lemmas.Nat.{xor_lt}
use Rattle.hp_bits.proofs.logic.xor.Goals as goal

pub returns-clause-bound : goal.returns-clause-bound
returns-clause-bound c = xor_lt c.args.x.size.bits c.args.y.pattern c.args.x.pattern (subst (λ (w : ℕ). c.args.y.pattern < 2 ^ w) c.requires.alike.size c.args.y.in_range) c.args.x.in_range
