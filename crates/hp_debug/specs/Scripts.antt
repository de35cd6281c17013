-- What the debugger writes for a script: one line for each of its lines.
use Rattle.std.specs.Prelude.{ℕ, Bool, true, false, if◌then◌else◌, List, [], ◌∷◌, ◌++◌, codes, Option, Some, None, Result, Ok, Err}
use Rattle.jd_text.specs.Words.{word_lines}
use Rattle.jd_text.specs.Readings.{read_lines}
use Rattle.hp_model.specs.declared.Key.{Key}
use Rattle.hp_model.specs.State.{standard_bytes, memory_bytes}
use Rattle.hp_model.specs.Press.{new_calculator}
use Rattle.hp_model.specs.Display.{display, three_digits}
use Rattle.hp_run.specs.Stepping.{is_ready}
use Rattle.hp_debug.specs.declared.commands.Command.{Command}
use Rattle.hp_debug.specs.declared.commands.Command.TheVariants as asked
use Rattle.hp_debug.specs.declared.stops.Stopped.{Stopped}
use Rattle.hp_debug.specs.declared.stops.Stopped.TheVariants.{NotRun, Break, Ended, Late}
use Rattle.hp_debug.specs.Debuggers.{Debugger, new_debugger, pressed, stepped, run_to_stop, RunResult, has_history, stepped_back, with_breakpoint}
use Rattle.hp_debug.specs.ScriptLines.{Line, keys, new_machine, command, script_line}

-- the debugger after a line of a script, and the line that is written for it
pub record Output : Type 0 where
  pub debugger : Debugger
  pub text : List ℕ

abbrev pub output : Debugger → List ℕ → Output
output d text = record { debugger = d; text = text ++ 10 ∷ [] }

abbrev pub display_output : Debugger → Output
display_output d = output d (display d.present)

-- the display after the number of the line
abbrev pub numbered_display : Debugger → List ℕ
numbered_display d = three_digits d.present.machine.control.line ++ codes " " ++ display d.present

abbrev pub pressed_all : List Key → Debugger → Debugger
pressed_all [] d = d
pressed_all (key ∷ rest) d = pressed_all rest (pressed key d)

abbrev pub stop_text : Stopped → Debugger → List ℕ
stop_text NotRun d = codes "not run"
stop_text (Break line) d = codes "break " ++ numbered_display d
stop_text (Ended end) d = codes "end " ++ numbered_display d
stop_text Late d = codes "late " ++ numbered_display d

abbrev pub run_output : RunResult → Output
run_output r = output r.debugger (stop_text r.stopped r.debugger)

abbrev pub command_output : Command → Debugger → Output
command_output (asked.Break line) d = display_output (with_breakpoint line true d)
command_output (asked.Clear line) d = display_output (with_breakpoint line false d)
command_output asked.Step d = output (stepped d) (if is_ready d.present then numbered_display (stepped d) else codes "not run")
command_output asked.Back d = output (stepped_back d) (if has_history d then numbered_display (stepped_back d) else codes "no history")
command_output asked.Go d = run_output (run_to_stop d)

abbrev pub line_output : Line → Debugger → Output
line_output (keys pressed_keys) d = display_output (pressed_all pressed_keys d)
line_output (new_machine extent pressed_keys) d = display_output (pressed_all pressed_keys (new_debugger (new_calculator (memory_bytes extent)) d.depth))
line_output (command given) d = command_output given d

-- the text of a line and of those after it. The text ends where a line is none of a script
abbrev pub text_of_line : Option Line → Debugger → (Debugger → List ℕ) → List ℕ
text_of_line None d rest = []
text_of_line (Some line) d rest = (line_output line d).text ++ rest (line_output line d).debugger

-- the lines in order. `first` says whether the first line is still to come
abbrev pub text_from : Bool → Debugger → List (List (List ℕ)) → List ℕ
text_from first d [] = []
text_from first d (words ∷ lines) = text_of_line (script_line first words) d (λ next. text_from false next lines)

-- how many states a script's debugger records
abbrev pub script_depth : ℕ
script_depth = 256

abbrev pub initial_debugger : Debugger
initial_debugger = new_debugger (new_calculator standard_bytes) script_depth

-- each line is looked at first: after a good one the next is not the first
abbrev pub checked_line : Bool → List (List ℕ) → Result Bool Unit
checked_line first words = elim (script_line first words) [ None ↦ Err tt | Some line ↦ Ok false ]

abbrev pub text_or_fault : Result Bool (ℕ × Unit) → List (List (List ℕ)) → Result (List ℕ) ℕ
text_or_fault (Ok _) lines = Ok (text_from true initial_debugger lines)
text_or_fault (Err fault) lines = Err fault.0

-- the text of a script, or the number of its first line that is none of a script
abbrev pub script_text : List ℕ → Result (List ℕ) ℕ
script_text bytes = text_or_fault (read_lines checked_line 1 true (word_lines bytes)) (word_lines bytes)
