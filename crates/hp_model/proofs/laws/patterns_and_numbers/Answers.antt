use Rattle.hp_model.proofs.WordValues.{low_of_value, value_of_low}
use Rattle.hp_model.proofs.laws.patterns_and_numbers.Goals as goal

pub returns : goal.returns
returns c = record { low_of_value = low_of_value; value_of_low = value_of_low }
