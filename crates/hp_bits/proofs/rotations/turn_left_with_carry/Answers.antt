use Rattle.std.proofs.Common.{◌∙◌}
use Rattle.hp_bits.proofs.Turns.{left_carry_answer}
use Rattle.hp_bits.proofs.rotations.turn_left_with_carry.Goals as goal

pub returns-clause-value : goal.returns-clause-value
returns-clause-value c =
    c.after.ensures ∙ rw c.patterns-mask.ensures.value
    (left_carry_answer _ _ _ _ _ c.args.y.size.at_least_one c.requires c.args.y.in_range (rw c.with_carry.ensures.value at c.moved_round-turned.ensures.value))
