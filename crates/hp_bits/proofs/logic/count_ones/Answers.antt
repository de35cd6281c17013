use Rattle.std.proofs.Common.{ap, sym, ◌∙◌}
use Rattle.std.proofs.Math.Nat.{mod-eq_of_lt}
use lib.Count.{ones}
use Rattle.hp_bits.proofs.Lengths.{ones_are}
use Rattle.hp_bits.proofs.logic.count_ones.Goals as goal

pub returns-clause-value : goal.returns-clause-value
returns-clause-value c = ap ones (sym (mod-eq_of_lt c.args.x.in_range)) ∙ ones_are c.args.x.size.bits c.args.x.pattern
