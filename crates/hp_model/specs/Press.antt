-- The calculator: what a pressed key does.
use Rattle.std.specs.Prelude.{ℕ, ◌+◌, ◌-◌, ◌/◌, min, max, Bool, false, true, ◌==◌, nat_lt, nat_le, if◌then◌else◌, List, [], length, insert, remove, Option, Some, None}
use Rattle.hp_model.specs.declared.End.{End}
use Rattle.hp_model.specs.declared.End.TheVariants.{Error}
use Rattle.hp_model.specs.declared.Stop.{Stop}
use Rattle.hp_model.specs.declared.Stop.TheVariants.{Go, Ended}
use Rattle.hp_model.specs.declared.View.{View}
use Rattle.hp_model.specs.declared.View.TheVariants.{Normal, Show, Status, Mem, Error as Failed}
use Rattle.hp_model.specs.declared.Key.{Key}
use Rattle.hp_model.specs.Operations.{Target, Operation}
use Rattle.hp_model.specs.Operations as ops
use Rattle.hp_model.specs.Codes.{code_of}
use Rattle.hp_model.specs.State.{Control, Machine, lines, radix, reset, blocks_of}
use Rattle.hp_model.specs.Memory.{resized}
use Rattle.hp_model.specs.ControlStep.{entry_ended}
use Rattle.hp_model.specs.DataStep.{with_x}
use Rattle.hp_model.specs.Run.{Step, operated, line_done, at_control_line, run}
use Rattle.hp_model.specs.Keys.{Command, Prefix, Pressed}
use Rattle.hp_model.specs.Keys as keys
use Rattle.hp_model.specs.Prefixes.{press_key}

pub record Calculator : Type 0 where
  pub machine : Machine
  pub prefix : Prefix
  pub programming : Bool
  pub view : View

-- with so many bytes of memory
abbrev pub new_calculator : ℕ → Calculator
new_calculator bytes = record { machine = reset bytes; prefix = keys.nothing_pending; programming = false; view = Normal }

-- what a command gives: the machine and the view, with program mode as it was
pub record Shown : Type 0 where
  pub machine : Machine
  pub view : View

abbrev pub normally : Machine → Shown
normally m = record { machine = m; view = Normal }

abbrev pub with_control : Control → Machine → Machine
with_control c m = record m { control = c }

abbrev pub without_entry : Machine → Machine
without_entry m = with_control (entry_ended m.control) m

abbrev pub without_calls : Machine → Machine
without_calls m = with_control (record m.control { calls = [] }) m

abbrev pub failing : ℕ → Machine → Shown
failing n m = record { machine = without_entry m; view = Failed n }

-- ---- commands in run mode

abbrev pub view_of_end : End → View
view_of_end (Error n) = Failed n
view_of_end _ = Normal

abbrev pub view_of_stop : Stop → View
view_of_stop Go = Normal
view_of_stop (Ended end) = view_of_end end

abbrev pub shown_step : Step → Shown
shown_step s = record { machine = s.machine; view = view_of_stop s.stop }

-- a run that doesn't end by itself is cut off with error 8
abbrev pub shown_run : Option End × Machine → Shown
shown_run (Some end, m) = record { machine = m; view = view_of_end end }
shown_run (None, m) = record { machine = m; view = Failed 8 }

unfoldable pub lines_per_key : ℕ
lines_per_key = 100000

abbrev pub run_from : ℕ → Machine → Shown
run_from line m = shown_run (run lines_per_key (at_control_line line m))

-- a pressed GTO or GSB forgets the pending returns, and its search begins after the shown line
abbrev pub ready_to_search : Machine → Machine
ready_to_search m = at_control_line (min (m.control.line + 1) (lines m.control + 1)) (without_calls m)

abbrev pub pressed_goto : Target → Machine → Step
pressed_goto target m = operated (ops.goto target) (ready_to_search m)

abbrev pub went : Machine → Step → (Machine → Shown) → Shown
went before s continue = elim s.stop [
  | Ended end ↦ record { machine = without_entry before; view = view_of_end end }
  | Go ↦ continue s.machine
]

abbrev pub operated_here : Operation → Machine → Shown
operated_here op m =
    let s = operated op m in
    record { machine = at_control_line m.control.line s.machine; view = view_of_stop s.stop }

abbrev pub pressed_operation : Operation → Machine → Shown
pressed_operation (ops.goto target) m = went m (pressed_goto target m) normally
pressed_operation (ops.gosub target) m = went m (pressed_goto target m) (λ after. run_from after.control.line after)
pressed_operation ops.to_caller m = normally (operated ops.to_caller (without_calls m)).machine
pressed_operation ops.run_stop m = let after = (operated ops.run_stop m).machine in run_from (max after.control.line 1) after
pressed_operation op m = operated_here op m

-- X and the entry become a number
abbrev pub with_entry : ℕ → Machine → Machine
with_entry n m = record { control = record m.control { entry = Some n }; contents = with_x n m.contents }

-- X becomes zero, and the next number takes its place
abbrev pub cleared : Machine → Machine
cleared m = record { control = record m.control { entry = None; lift = false }; contents = with_x 0 m.contents }

abbrev pub taken_back_from : Option ℕ → Machine → Machine
taken_back_from None m = cleared m
taken_back_from (Some entry) m =
    if nat_le (radix m.control.base) entry then with_entry (entry / radix m.control.base) m else cleared m

-- the last digit of the entry is taken back, or X is cleared
abbrev pub taken_back : Machine → Machine
taken_back m = taken_back_from m.control.entry m

-- ---- commands in program mode

-- the machine with another program, whose blocks are as many as it needs
abbrev pub reprogrammed : List ℕ → ℕ → Machine → Machine
reprogrammed program line m =
    let blocks = blocks_of (length program) in
    record {
      control = record m.control { program = program; blocks = blocks; line = line; calls = [] };
      contents = record m.contents { nibbles = resized m.control.bytes blocks m.contents.nibbles };
    }

-- whether the program has as many lines as memory has bytes
abbrev pub is_full : Machine → Bool
is_full m = nat_le m.control.bytes (lines m.control)

abbrev pub inserted : Operation → Machine → Shown
inserted op m =
    if is_full m then record { machine = m; view = Failed 4 } else
    normally (reprogrammed (insert m.control.program m.control.line (code_of op)) (m.control.line + 1) m)

abbrev pub deleted : Machine → Machine
deleted m =
    if m.control.line == 0 then m else
    reprogrammed (remove m.control.program (m.control.line - 1)) (m.control.line - 1) m

abbrev pub next_line : Control → ℕ
next_line c = if nat_lt c.line (lines c) then c.line + 1 else 0

abbrev pub line_before : Control → ℕ
line_before c = if c.line == 0 then lines c else c.line - 1

-- ---- a command

abbrev pub gone_to_line : ℕ → Machine → Shown
gone_to_line n m =
    if nat_lt (lines m.control) n then failing 4 m else
    normally (at_control_line n (without_calls (without_entry m)))

-- a command in run mode, and one in program mode. Switching the mode comes apart
abbrev pub in_run_mode : Command → Machine → Shown
in_run_mode (keys.operate op) m = pressed_operation op m
in_run_mode (keys.show_in base) m = record { machine = without_entry m; view = Show base }
in_run_mode keys.show_status m = record { machine = without_entry m; view = Status }
in_run_mode keys.show_memory m = record { machine = without_entry m; view = Mem }
in_run_mode keys.clear_prefix m = normally m
in_run_mode keys.clear_program m = normally (at_control_line 0 (without_calls (without_entry m)))
in_run_mode keys.switch_program m = normally (at_control_line (if nat_lt (lines m.control) m.control.line then 0 else m.control.line) (without_entry m))
in_run_mode keys.single_step m = shown_step (line_done (at_control_line (max m.control.line 1) (without_entry m)))
in_run_mode keys.back_step m = normally (at_control_line (line_before m.control) (without_entry m))
in_run_mode keys.backspace m = normally (taken_back m)
in_run_mode (keys.goto_line n) m = gone_to_line n m
in_run_mode keys.not_here m = failing 1 m
in_run_mode keys.turn_on m = normally (without_entry m)

abbrev pub in_program_mode : Command → Machine → Shown
in_program_mode (keys.operate op) m = inserted op m
in_program_mode keys.clear_program m = normally (reprogrammed [] 0 (without_entry m))
in_program_mode keys.switch_program m = normally (without_entry m)
in_program_mode keys.single_step m = normally (at_control_line (next_line m.control) (without_entry m))
in_program_mode keys.backspace m = normally (deleted m)
in_program_mode command m = in_run_mode command m

abbrev pub mode_after : Command → Bool → Bool
mode_after keys.switch_program programming = if programming then false else true
mode_after keys.turn_on programming = false
mode_after _ programming = programming

abbrev pub commanded : Command → Calculator → Calculator
commanded command s =
    let shown : Shown = if s.programming then in_program_mode command s.machine else in_run_mode command s.machine in
    record { machine = shown.machine; prefix = s.prefix; programming = mode_after command s.programming; view = shown.view }

abbrev pub after_press : Calculator → Prefix × Pressed → Calculator
after_press s (prefix, keys.complete command) = commanded command (record s { prefix = prefix; view = Normal })
after_press s (prefix, _) = record s { prefix = prefix; view = Normal }

-- the calculator after a key
abbrev pub press : Calculator → Key → Calculator
press s key = after_press s (press_key s.prefix key)
