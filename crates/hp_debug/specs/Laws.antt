-- Laws of the debugger over whole lists of calls: steps back restore what was recorded, and a run without breakpoints is
-- that of R/S.
use Rattle.std.specs.Prelude.{◌≡◌, ℕ, zero, suc, ◌+◌, ◌≤◌, Bool, true, false, if◌then◌else◌, List, [], ◌∷◌, get_or}
use Rattle.hp_model.specs.declared.Key.{Key}
use Rattle.hp_model.specs.declared.Key.TheVariants.{RunStop}
use Rattle.hp_model.specs.declared.Stop.{Stop}
use Rattle.hp_model.specs.declared.Stop.TheVariants as stop
use Rattle.hp_model.specs.Run.{line_done}
use Rattle.hp_model.specs.Press.{Calculator, press, lines_per_key}
use Rattle.hp_run.specs.Stepping.{is_ready, run_begun}
use Rattle.hp_debug.specs.Debuggers.{Debugger, state_recorded, with_present, pressed, stepped, run_to_stop, stepped_back, with_breakpoint, at_breakpoint, next_line_done}

-- the calls of a debugger between a moment and the steps back to it
pub data Call : Type 0 where
  press_key : Key → Call
  step go : Call
  breakpoint : ℕ → Bool → Call

abbrev pub after_call : Call → Debugger → Debugger
after_call (press_key key) d = pressed key d
after_call step d = stepped d
after_call go d = (run_to_stop d).debugger
after_call (breakpoint line set) d = with_breakpoint line set d

abbrev pub after_calls : List Call → Debugger → Debugger
after_calls [] d = d
after_calls (call ∷ calls) d = after_calls calls (after_call call d)

-- how many lines a run does, each of which is recorded
abbrev pub length_after_line : Stop → Bool → ℕ → ℕ
length_after_line (stop.Ended end) at_break rest = 0
length_after_line stop.Go at_break rest = if at_break then 0 else rest

abbrev pub run_length : ℕ → Calculator → Debugger → ℕ
run_length zero before d = 0
run_length (suc n) before d =
    let done = next_line_done (state_recorded before d) in
    suc (length_after_line (line_done d.present.machine).stop (at_breakpoint done) (run_length n done.present done))

-- how many states a call records
abbrev pub states_recorded : Call → Debugger → ℕ
states_recorded (press_key key) d = 1
states_recorded step d = if is_ready d.present then 1 else 0
states_recorded go d = if is_ready d.present then run_length lines_per_key d.present (with_present (run_begun d.present) d) else 0
states_recorded (breakpoint line set) d = 0

abbrev pub all_states_recorded : List Call → Debugger → ℕ
all_states_recorded [] d = 0
all_states_recorded (call ∷ calls) d = states_recorded call d + all_states_recorded calls (after_call call d)

abbrev pub stepped_back_by : ℕ → Debugger → Debugger
stepped_back_by zero d = d
stepped_back_by (suc m) d = stepped_back_by m (stepped_back d)

-- after calls that record at most as many states as the depth, as many steps back restore the whole state of the moment
-- before them: the stack, the flags, I, every nibble of memory, the program, the prefix, program mode and the view
abbrev pub StepsBackRestore : Type 0
StepsBackRestore = (calls : List Call) (d : Debugger) → all_states_recorded calls d ≤ d.depth
    → (stepped_back_by (all_states_recorded calls d) (after_calls calls d)).present ≡ d.present

-- with no breakpoint set, a run leaves the calculator as R/S leaves it
abbrev pub RunsAsPressed : Type 0
RunsAsPressed = (d : Debugger) → is_ready d.present ≡ true → ((line : ℕ) → get_or d.breakpoints line false ≡ false)
    → (run_to_stop d).debugger.present ≡ press d.present RunStop
