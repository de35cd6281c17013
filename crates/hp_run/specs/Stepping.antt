-- A calculator that runs its program line by line: R/S in parts, and when it runs at all.
use Rattle.std.specs.Prelude.{max, Bool, false, true, not, ◌&&◌}
use Rattle.hp_model.specs.declared.View.TheVariants.{Error as Failed}
use Rattle.hp_model.specs.Operations as ops
use Rattle.hp_model.specs.State.{Machine}
use Rattle.hp_model.specs.Run.{operated, line_done, at_control_line}
use Rattle.hp_model.specs.Keys.{Prefix}
use Rattle.hp_model.specs.Keys as keys
use Rattle.hp_model.specs.Press.{Calculator, Shown, normally, shown_step}

abbrev pub is_nothing_pending : Prefix → Bool
is_nothing_pending keys.nothing_pending = true
is_nothing_pending _ = false

-- SST does a line and R/S runs: in run mode, with no prefix pending
abbrev pub is_ready : Calculator → Bool
is_ready s = not s.programming && is_nothing_pending s.prefix

abbrev pub with_shown : Shown → Calculator → Calculator
with_shown shown s = record s { machine = shown.machine; view = shown.view }

-- the machine at the first line that R/S does
abbrev pub at_run_start : Machine → Machine
at_run_start m = let after = (operated ops.run_stop m).machine in at_control_line (max after.control.line 1) after

-- R/S is pressed, and no line is done yet
abbrev pub run_begun : Calculator → Calculator
run_begun s = with_shown (normally (at_run_start s.machine)) s

-- the next line of a run is done
abbrev pub line_run : Calculator → Calculator
line_run s = with_shown (shown_step (line_done s.machine)) s

-- a run that doesn't end by itself is cut off
abbrev pub run_cut : Calculator → Calculator
run_cut s = record s { view = Failed 8 }
