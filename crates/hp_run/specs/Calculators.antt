-- What a command gave, and the machine at another line.
use Rattle.hp_model.specs.declared.View.{View}
use Rattle.std.specs.Prelude.{ℕ}
use Rattle.hp_model.specs.State.{Machine as MachineState}
use Rattle.hp_model.specs.Run.{at_control_line}
use Rattle.hp_model.specs.Press.{Shown, normally, without_entry}
use Rattle.hp_core.specs.Machines.{machine_of}
use Rattle.hp_core.specs.declared.machine.Machine.{Machine}

abbrev pub shown_of : Machine → View → Shown
shown_of m view = record { machine = machine_of m; view = view }

-- at a line, digit entry being over
abbrev pub moved_to : ℕ → MachineState → Shown
moved_to line m = normally (at_control_line line (without_entry m))
