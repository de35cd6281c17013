-- The worked scripts, each by computing it.
use Rattle.std.proofs.Common.{refl}
use Rattle.std.specs.Fmt.{digits}
use Rattle.hp_model.specs.Press.{lines_per_key}
use Rattle.hp_debug.proofs.laws.worked_scripts.Goals as goal

pub returns : goal.returns
unfolding digits lines_per_key
returns c = record {
  empty = refl;
  break_and_back = refl;
  program_mode = refl;
  pending_prefix = refl;
  run_from_line_0 = refl;
  run_that_returns = refl;
  run_with_an_error = refl;
  break_at_the_first_line = refl;
  break_past_the_last_line = refl;
  break_at_609 = refl;
  cleared_break = refl;
  memory_comes_back = refl;
  larger_machine = refl;
  blanks_around_a_command = refl;
  bad_line_0 = refl;
  bad_line_610 = refl;
  bad_fourth_digit = refl;
  bad_without_number = refl;
  bad_number_after_step = refl;
  bad_unknown_command = refl;
  bad_second_command = refl;
  bad_command_after_machine = refl;
  bad_machine_on_second_line = refl;
}
