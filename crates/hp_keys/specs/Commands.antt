-- What the commands of the code mean.
use Rattle.hp_model.specs.Keys.{Command as CommandState, Pressed as PressedState}
use Rattle.hp_model.specs.Keys as keys
use Rattle.hp_ops.specs.Meaning.{operation}
use Rattle.hp_keys.specs.declared.commands.Command.{Command}
use Rattle.hp_keys.specs.declared.commands.Command.TheVariants as command
use Rattle.hp_keys.specs.declared.commands.Pressed.{Pressed}
use Rattle.hp_keys.specs.declared.commands.Pressed.TheVariants as pressed

abbrev pub command_of : Command → CommandState
command_of (command.Do op) = keys.operate (operation op)
command_of (command.Show base) = keys.show_in base
command_of command.Status = keys.show_status
command_of command.Mem = keys.show_memory
command_of command.ClearPrefix = keys.clear_prefix
command_of command.ClearProgram = keys.clear_program
command_of command.ProgramRun = keys.switch_program
command_of command.Sst = keys.single_step
command_of command.Bst = keys.back_step
command_of command.Bsp = keys.backspace
command_of (command.GotoLine n) = keys.goto_line n
command_of command.Float = keys.not_here
command_of command.On = keys.turn_on

abbrev pub pressed_of : Pressed → PressedState
pressed_of pressed.More = keys.more
pressed_of (pressed.Do c) = keys.complete (command_of c)
pressed_of pressed.Dropped = keys.dropped
