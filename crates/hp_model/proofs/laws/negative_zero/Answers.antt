use Rattle.std.proofs.Common.{ap, nat_abs}
use Rattle.hp_model.proofs.WordValues.{negative_zero_value}
use Rattle.hp_model.proofs.laws.negative_zero.Goals as goal

pub returns : goal.returns
returns c = record { value_is_zero = negative_zero_value; magnitude_is_zero = λ w h. ap nat_abs (negative_zero_value w h) }
