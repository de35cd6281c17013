use Rattle.std.proofs.Common.{arith}
use Rattle.hp_control.proofs.FromLine.{from_line}
use Rattle.machine_tests.proofs.operations.done.Goals as goal

pub step-requires : goal.step-requires
step-requires c = from_line _ _ (omega arith)
