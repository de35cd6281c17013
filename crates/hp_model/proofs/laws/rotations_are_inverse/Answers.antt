use Rattle.hp_model.proofs.Rotations.{left_then_right, left_carry_then_right}
use Rattle.hp_model.proofs.laws.rotations_are_inverse.Goals as goal

pub returns : goal.returns
returns c = record { plain = left_then_right; through_carry = left_carry_then_right }
