-- The debugger: a calculator whose earlier states are recorded, so that it can go back to them, and breakpoints, before
-- which its runs stop.
use Rattle.std.specs.Prelude.{ℕ, zero, suc, ◌-◌, Bool, false, nat_lt, if◌then◌else◌, List, [], ◌∷◌, ◌++◌, length, take, drop, replicate, get_or, slice_set}
use Rattle.hp_model.specs.declared.Key.{Key}
use Rattle.hp_model.specs.declared.Key.TheVariants.{SingleStep}
use Rattle.hp_model.specs.declared.Stop.{Stop}
use Rattle.hp_model.specs.declared.Stop.TheVariants as stop
use Rattle.hp_model.specs.Run.{line_done}
use Rattle.hp_model.specs.Press.{Calculator, press, lines_per_key}
use Rattle.hp_run.specs.Stepping.{is_ready, run_begun, line_run, run_cut}
use Rattle.hp_debug.specs.declared.stops.Stopped.{Stopped}
use Rattle.hp_debug.specs.declared.stops.Stopped.TheVariants.{NotRun, Break, Ended, Late}

-- the present state; the recorded ones, the oldest first, at most `depth` of them; and for each number of a line from 0
-- whether the line has a breakpoint
pub record Debugger : Type 0 where
  pub present : Calculator
  pub history : List Calculator
  pub depth : ℕ
  pub breakpoints : List Bool

-- lines 1 to 609 may have breakpoints; line 0 never has one
abbrev pub breakpoint_bound : ℕ
breakpoint_bound = 610

abbrev pub new_debugger : Calculator → ℕ → Debugger
new_debugger s depth = record { present = s; history = []; depth = depth; breakpoints = replicate breakpoint_bound false }

abbrev pub with_present : Calculator → Debugger → Debugger
with_present s d = record d { present = s }

-- ---- recording, and back

-- the oldest state is dropped where there are more than the depth
abbrev pub within_depth : ℕ → List Calculator → List Calculator
within_depth depth states = if nat_lt depth (length states) then drop 1 states else states

abbrev pub state_recorded : Calculator → Debugger → Debugger
state_recorded s d = record d { history = within_depth d.depth (d.history ++ s ∷ []) }

abbrev pub present_recorded : Debugger → Debugger
present_recorded d = state_recorded d.present d

abbrev pub has_history : Debugger → Bool
has_history d = nat_lt 0 (length d.history)

-- the state recorded last becomes the present one and leaves the history. With no history nothing changes
abbrev pub stepped_back : Debugger → Debugger
stepped_back d = record d {
  present = get_or d.history (length d.history - 1) d.present;
  history = take (length d.history - 1) d.history;
}

-- ---- breakpoints

abbrev pub with_breakpoint : ℕ → Bool → Debugger → Debugger
with_breakpoint line set d = record d { breakpoints = slice_set d.breakpoints line set }

-- whether the line to be done next has a breakpoint
abbrev pub at_breakpoint : Debugger → Bool
at_breakpoint d = get_or d.breakpoints d.present.machine.control.line false

-- ---- keys and single steps

abbrev pub pressed : Key → Debugger → Debugger
pressed key d = with_present (press d.present key) (present_recorded d)

-- SST in run mode
abbrev pub stepped : Debugger → Debugger
stepped d = if is_ready d.present then pressed SingleStep d else d

-- ---- runs

-- how a run stopped, and the debugger then
pub record RunResult : Type 0 where
  pub stopped : Stopped
  pub debugger : Debugger

abbrev pub run_result : Stopped → Debugger → RunResult
run_result stopped d = record { stopped = stopped; debugger = d }

-- after a line: the run ended, it has come to a line with a breakpoint, or it goes on
abbrev pub after_line : Stop → Debugger → RunResult → RunResult
after_line (stop.Ended end) d rest = run_result (Ended end) d
after_line stop.Go d rest = if at_breakpoint d then run_result (Break d.present.machine.control.line) d else rest

abbrev pub next_line_done : Debugger → Debugger
next_line_done d = with_present (line_run d.present) d

-- at most so many lines are done from the present state on. Before each a state is recorded: before the first the one that
-- is given, and then the present one
abbrev pub run_lines : ℕ → Calculator → Debugger → RunResult
run_lines zero before d = run_result Late (with_present (run_cut d.present) d)
run_lines (suc n) before d =
    let done = next_line_done (state_recorded before d) in
    after_line (line_done d.present.machine).stop done (run_lines n done.present done)

-- R/S in run mode, with breakpoints. The state recorded before the first line is the one before R/S
abbrev pub run_to_stop : Debugger → RunResult
run_to_stop d =
    if is_ready d.present then run_lines lines_per_key d.present (with_present (run_begun d.present) d) else
    run_result NotRun d
