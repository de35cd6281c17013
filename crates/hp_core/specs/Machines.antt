-- A machine as control and data, and one operation done to it.
use Rattle.std.specs.Prelude.{◌≡◌, List, [], Bool}
use Rattle.hp_model.specs.declared.Stop.{Stop}
use Rattle.hp_model.specs.Operations.{Operation}
use Rattle.hp_model.specs.State.{Control as ControlState, Data, Machine as MachineState}
use Rattle.hp_model.specs.Questions.{answers}
use Rattle.hp_model.specs.ControlStep.{control_step}
use Rattle.hp_model.specs.DataStep.{data_step}
use Rattle.hp_model.specs.Run.{Step}
use Rattle.hp_words.specs.Contents.{data_of as data_with}
use Rattle.hp_control.specs.Controls.{listing_of, control_of as control_with}
use Rattle.hp_core.specs.declared.machine.Machine.{Machine}

abbrev pub control_of : Machine → ControlState
control_of m = control_with m.control (listing_of m.memory)

abbrev pub data_of : Machine → Data
data_of m = data_with m.content m.memory.nibbles

abbrev pub machine_of : Machine → MachineState
machine_of m = record { control = control_of m; contents = data_of m }

abbrev pub step_of : Machine → Stop → Step
step_of m stop = record { machine = machine_of m; stop = stop }

-- what one operation does to the data, and the answers that the data gives
pub record Changes (old new : Machine) (op : Operation) (given : List Bool) : Type 0 where
  pub control : control_of new ≡ control_of old
  pub answers : given ≡ answers (control_of old) op (data_of old)
  pub contents : data_step (control_of old) op given (data_of old) ≡ data_of new

-- control takes the same way whatever the data is
abbrev pub AsksNothing : Operation → Type 0
AsksNothing op = (c : ControlState) (d : Data) → answers c op d ≡ []

-- one operation, done to a machine
pub record Steps (old new : Machine) (stop : Stop) (op : Operation) : Type 0 where
  pub control : control_step (control_of old) op (answers (control_of old) op (data_of old)) ≡ (control_of new, stop)
  pub contents : data_step (control_of old) op (answers (control_of old) op (data_of old)) (data_of old) ≡ data_of new

-- no line was changed
pub record KeepsLines (old new : Machine) : Type 0 where
  pub program : new.memory.program ≡ old.memory.program
  pub blocks : new.memory.blocks ≡ old.memory.blocks
