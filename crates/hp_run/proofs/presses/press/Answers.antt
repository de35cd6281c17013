use Rattle.hp_keys.specs.Commands.{command_of}
use Rattle.hp_run.specs.Seen.{calculator_of}
use Rattle.hp_run.proofs.Pressed.{kept_by_command}
use Rattle.hp_run.proofs.presses.press.Goals as goal

pub returns-in-Do-clause-kept : goal.returns-in-Do-clause-kept
returns-in-Do-clause-kept c j unwritten =
    kept_by_command (calculator_of c.args.calculator.now) c.args.key c.press_key.new.prefix (command_of c.in-Do.command) (calculator_of c.press_command.new.calculator) j
    c.in-Do.ensures.pressed c.press_command.ensures unwritten
