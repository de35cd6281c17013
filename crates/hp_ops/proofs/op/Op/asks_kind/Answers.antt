use Rattle.std.proofs.Common.{refl}
use Rattle.hp_ops.specs.Meaning.{condition}
use Rattle.hp_ops.proofs.op.Op.asks_kind.Goals as goal

pub returns-in-Test : goal.returns-in-Test
returns-in-Test c = λ control. (condition c.in-Test.field-0, rw c.in-Test.is refl)
