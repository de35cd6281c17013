use Rattle.std.proofs.Common.{◌∙◌}
use Rattle.hp_bits.proofs.Turns.{left_answer}
use Rattle.hp_bits.proofs.rotations.turn_left.Goals as goal

pub returns-clause-value : goal.returns-clause-value
returns-clause-value c = λ carry.
    c.after.ensures ∙ rw c.moved_round-pattern.ensures.value (left_answer _ _ _ carry c.args.y.size.at_least_one c.requires c.args.y.in_range)
