-- A calculator as the definitions see it.
use Rattle.hp_model.specs.Press.{Calculator as CalculatorState}
use Rattle.hp_core.specs.Machines.{machine_of}
use Rattle.hp_run.specs.declared.calculators.Calculator.{Calculator}

abbrev pub calculator_of : Calculator → CalculatorState
calculator_of c = record { machine = machine_of c.machine; prefix = c.prefix; programming = c.program; view = c.view }
