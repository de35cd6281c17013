use Rattle.jd_symbolic.proofs.OperationGates.{operation-gates}
use Rattle.jd_symbolic.proofs.laws.operation_gates.Goals as goal

pub returns : goal.returns
returns c = operation-gates
