-- The nibbles that an operation or a key may change, each told by a test of the nibble's number.
use Rattle.std.specs.Prelude.{ℕ, max, Bool, true, false, not, ◌&&◌, ◌||◌, nat_le, nat_lt, ◌==◌, length, if◌then◌else◌, List, [], ◌∷◌, Option, Some, None}
use Rattle.hp_model.specs.declared.Stop.{Stop}
use Rattle.hp_model.specs.declared.Stop.TheVariants.{Go, Ended}
use Rattle.hp_model.specs.declared.Key.{Key}
use Rattle.hp_model.specs.Operations.{Operation, Target}
use Rattle.hp_model.specs.Operations as ops
use Rattle.hp_model.specs.State.{Machine, register_nibbles}
use Rattle.hp_model.specs.Memory.{is_of_register}
use Rattle.hp_model.specs.Questions.{answers}
use Rattle.hp_model.specs.ControlStep.{error_of}
use Rattle.hp_model.specs.Run.{operated, at_control_line, trace}
use Rattle.hp_model.specs.Keys.{Command, Pressed}
use Rattle.hp_model.specs.Keys as keys
use Rattle.hp_model.specs.Prefixes.{press_key}
use Rattle.hp_model.specs.Press.{Calculator, is_full, lines_per_key, pressed_goto, without_entry, press}

-- ---- an operation

-- whether an operation that doesn't err writes nibble j
abbrev pub may_write : Operation → Machine → ℕ → Bool
may_write (ops.store (ops.register r)) m j = is_of_register m.control.size r j
may_write (ops.store ops.through_index) m j = is_of_register m.control.size m.contents.index j
may_write ops.exchange_through m j = is_of_register m.control.size m.contents.index j
may_write ops.clear_registers m j = nat_lt j (length m.contents.nibbles)
may_write _ m j = false

abbrev pub unless_error : Option ℕ → Bool → Bool
unless_error None writes = writes
unless_error (Some n) writes = false

-- whether an operation, done to a machine, writes nibble j
abbrev pub writes : Operation → Machine → ℕ → Bool
writes op m j = unless_error (error_of m.control op (answers m.control op m.contents)) (may_write op m j)

-- whether an operation stores in registers or clears them. No other writes a nibble
abbrev pub is_writer : Operation → Bool
is_writer (ops.store (ops.register r)) = true
is_writer (ops.store ops.through_index) = true
is_writer ops.exchange_through = true
is_writer ops.clear_registers = true
is_writer _ = false

-- whether one of the operations done writes nibble j, each with the machine as it finds it
abbrev pub any_writes : List (Operation × Machine) → ℕ → Bool
any_writes [] j = false
any_writes ((op, m) ∷ done) j = writes op m j || any_writes done j

-- whether one of the operations done stores in registers or clears them
abbrev pub any_is_writer : List (Operation × Machine) → Bool
any_is_writer [] = false
any_is_writer ((op, m) ∷ done) = is_writer op || any_is_writer done

-- ---- a key in run mode

abbrev pub trace_from : ℕ → Machine → List (Operation × Machine)
trace_from line m = trace lines_per_key (at_control_line line m)

abbrev pub trace_after : Stop → Machine → List (Operation × Machine)
trace_after Go m = trace_from m.control.line m
trace_after (Ended end) m = []

-- the operations that a pressed operation does, each with the machine as it finds it
abbrev pub done_by_operation : Operation → Machine → List (Operation × Machine)
done_by_operation (ops.goto target) m = []
done_by_operation (ops.gosub target) m = trace_after (pressed_goto target m).stop (pressed_goto target m).machine
done_by_operation ops.to_caller m = []
done_by_operation ops.run_stop m = trace_from (max (operated ops.run_stop m).machine.control.line 1) (operated ops.run_stop m).machine
done_by_operation op m = (op, m) ∷ []

abbrev pub done_by : Command → Machine → List (Operation × Machine)
done_by (keys.operate op) m = done_by_operation op m
done_by keys.single_step m = trace 1 (at_control_line (max m.control.line 1) (without_entry m))
done_by _ m = []

-- ---- a key in program mode

-- whether an edit happens
abbrev pub is_edit : Command → Machine → Bool
is_edit (keys.operate op) m = not (is_full m)
is_edit keys.backspace m = not (m.control.line == 0)
is_edit keys.clear_program m = true
is_edit _ m = false

-- whether nibble j belongs to the program and not to the registers
abbrev pub is_of_program : Machine → ℕ → Bool
is_of_program m j = nat_le (register_nibbles m.control.bytes m.control.blocks) j

-- whether nibble j may change in an edit: it belongs to the program before or after
abbrev pub edits : Command → Machine → Machine → ℕ → Bool
edits command before after j = is_edit command before && (is_of_program before j || is_of_program after j)

-- ---- a key

abbrev pub wrote_by : Command → Calculator → Machine → ℕ → Bool
wrote_by command s after j =
    if s.programming then edits command s.machine after j else any_writes (done_by command s.machine) j

abbrev pub wrote_of : Pressed → Calculator → Machine → ℕ → Bool
wrote_of (keys.complete command) s after j = wrote_by command s after j
wrote_of _ s after j = false

-- whether a key may change nibble j
abbrev pub wrote : Calculator → Key → ℕ → Bool
wrote s key j = wrote_of (press_key s.prefix key).1 s (press s key).machine j

-- whether a key stores in registers, clears them or edits the program. No other changes a nibble
abbrev pub changes_by : Command → Calculator → Bool
changes_by command s = if s.programming then is_edit command s.machine else any_is_writer (done_by command s.machine)

abbrev pub changes_of : Pressed → Calculator → Bool
changes_of (keys.complete command) s = changes_by command s
changes_of _ s = false

abbrev pub changes_memory : Calculator → Key → Bool
changes_memory s key = changes_of (press_key s.prefix key).1 s

-- ---- several operations, and several keys

abbrev pub operated_all : List Operation → Machine → Machine
operated_all [] m = m
operated_all (op ∷ rest) m = operated_all rest (operated op m).machine

-- whether one of several operations writes nibble j
abbrev pub all_write : List Operation → Machine → ℕ → Bool
all_write [] m j = false
all_write (op ∷ rest) m j = writes op m j || all_write rest (operated op m).machine j

abbrev pub pressed_all : List Key → Calculator → Calculator
pressed_all [] s = s
pressed_all (key ∷ rest) s = pressed_all rest (press s key)

-- whether one of several keys may change nibble j
abbrev pub all_wrote : List Key → Calculator → ℕ → Bool
all_wrote [] s j = false
all_wrote (key ∷ rest) s j = wrote s key j || all_wrote rest (press s key) j

-- whether one of several keys stores in registers, clears them or edits the program
abbrev pub any_changes_memory : List Key → Calculator → Bool
any_changes_memory [] s = false
any_changes_memory (key ∷ rest) s = changes_memory s key || any_changes_memory rest (press s key)
