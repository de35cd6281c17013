use Rattle.std.proofs.Common.{ap, refl, ◌∙◌}
use Rattle.hp_model.specs.State.{Machine}
use Rattle.hp_core.proofs.machine.Machine.new.Goals as goal

abbrev at_line_0 : Machine → Machine
at_line_0 m = record m { control = record m.control { line = 0 } }

pub returns : goal.returns
returns c = ap {A = Machine} at_line_0 c.begin-machine.ensures ∙ rw c.new.ensures refl
