use Rattle.std.proofs.Common.{◌-◌, ◌∙◌, refl}
use Rattle.std.proofs.lemmas.Nat.{and_mask}
use Rattle.hp_bits.proofs.Turns.{left_part}
use Rattle.hp_bits.proofs.shifts.moved_left.Goals as goal

pub returns-clause-value : goal.returns-clause-value
returns-clause-value c =
    c.carrying.ensures ∙ rw (c.half.ensures.value, c.top_bit.ensures, c.number.ensures.value, and_mask c.args.x.pattern (c.args.x.size.bits - 1), left_part c.args.x.size.bits c.args.x.pattern c.args.x.size.at_least_one) refl
