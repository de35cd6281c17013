-- What the operands of the code mean.
use Rattle.hp_model.specs.Prefixes.{Operand as OperandState}
use Rattle.hp_model.specs.Prefixes as operands
use Rattle.hp_keys.specs.declared.operands.Operand.{Operand}
use Rattle.hp_keys.specs.declared.operands.Operand.TheVariants as operand

abbrev pub operand_means : Operand → OperandState
operand_means (operand.Number d) = operands.number d.value
operand_means operand.Point = operands.point
operand_means operand.Single = operands.single
operand_means operand.Run = operands.run
operand_means operand.Shift = operands.shift
operand_means operand.Other = operands.other
