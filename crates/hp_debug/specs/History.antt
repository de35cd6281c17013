-- The calculators of a history as the definitions see them.
use Rattle.std.specs.Prelude.{List, map}
use Rattle.hp_model.specs.Press.{Calculator as State}
use Rattle.hp_run.specs.declared.calculators.Calculator.{Calculator}
use Rattle.hp_run.specs.Seen.{calculator_of}

abbrev pub states_of : List Calculator → List State
states_of calculators = map calculator_of calculators
