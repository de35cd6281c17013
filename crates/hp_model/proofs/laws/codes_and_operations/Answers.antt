use Rattle.hp_model.proofs.Codes.{code_of-operation_of, operation_of-code_of, code_of-below}
use Rattle.hp_model.proofs.laws.codes_and_operations.Goals as goal

pub returns : goal.returns
returns c = record { code_of_operation = code_of-operation_of; operation_of_code = operation_of-code_of; code_is_below = code_of-below }
