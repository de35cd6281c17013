-- Any operation may be done at a line from 1 on.
use Rattle.std.proofs.Common.{ℕ, ◌≤◌}
use Rattle.hp_model.specs.Operations.{Operation}
use Rattle.hp_model.specs.Operations as ops
use Rattle.hp_control.specs.Controls.{IsFromALine}

pub from_line : (op : Operation) (line : ℕ) → 1 ≤ line → IsFromALine op line
from_line (ops.gosub target) line h = h
from_line _ line h = tt
