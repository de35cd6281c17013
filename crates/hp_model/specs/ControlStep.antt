-- What an operation does to control: the line, the pending returns, the modes, digit entry and the window.
use Rattle.std.specs.Prelude.{ℕ, ◌+◌, ◌-◌, ◌*◌, ◌^◌, min, max, Bool, false, true, not, ◌||◌, ◌==◌, nat_lt, nat_le, if◌then◌else◌, List, [], ◌∷◌, length, drop, get_or, Option, Some, None, slice_index}
use Rattle.hp_model.specs.declared.Base.{Base}
use Rattle.hp_model.specs.declared.Base.TheVariants.{Dec}
use Rattle.hp_model.specs.declared.Mode.{Mode}
use Rattle.hp_model.specs.declared.Mode.TheVariants.{Unsigned}
use Rattle.hp_model.specs.declared.End.TheVariants.{Return, Halt, Error}
use Rattle.hp_model.specs.declared.Stop.{Stop}
use Rattle.hp_model.specs.declared.Stop.TheVariants.{Go, Ended}
use Rattle.hp_model.specs.Lists.{first_from}
use Rattle.hp_model.specs.Words.{number_of_bits}
use Rattle.hp_model.specs.Operations.{Target, Place, Operation}
use Rattle.hp_model.specs.Operations as ops
use Rattle.hp_model.specs.Codes.{code_of}
use Rattle.hp_model.specs.State.{Control, lines, radix, registers}

-- ---- digit entry

-- the greatest number that can be entered
abbrev pub greatest_entry : Control → ℕ
greatest_entry c = greatest_in c.base c.mode
  where
    greatest_in : Base → Mode → ℕ
    greatest_in base Unsigned = 2 ^ c.size - 1
    greatest_in Dec _ = 2 ^ (c.size - 1) - 1
    greatest_in _ _ = 2 ^ c.size - 1

-- the number with one more digit
abbrev pub longer_entry : Control → ℕ → ℕ
longer_entry c d = elim c.entry [ None ↦ d | Some entry ↦ entry * radix c.base + d ]

abbrev pub is_ignored : Control → ℕ → Bool
is_ignored c d = nat_le (radix c.base) d || nat_lt (greatest_entry c) (longer_entry c d)

-- ---- errors

abbrev pub answer_at : ℕ → List Bool → Bool
answer_at k given = get_or given k false

-- the number that the answers after the first spell
abbrev pub number_given : List Bool → ℕ
number_given given = number_of_bits (drop 1 given)

abbrev pub error_if : ℕ → Bool → Option ℕ
error_if n errs = if errs then Some n else None

-- whether a line, counted from 1, is this label
abbrev pub is_label_line : Control → ℕ → ℕ → Bool
is_label_line c n i = slice_index c.program (i - 1) == code_of (ops.label n)

abbrev pub or_else : Option ℕ → Option ℕ → Option ℕ
or_else None other = other
or_else (Some line) other = Some line

-- the first line from number `first` on that is this label, and else the first line before it
abbrev pub label_line : Control → ℕ → ℕ → Option ℕ
label_line c first n =
    or_else (first_from (is_label_line c n) first (lines c + 1 - first)) (first_from (is_label_line c n) 1 (first - 1))

abbrev pub target_line : Control → Target → List Bool → Option ℕ
target_line c (ops.label_named n) given = label_line c (max c.line 1) n
target_line c ops.label_in_index given = if answer_at 0 given then None else label_line c (max c.line 1) (number_given given)

abbrev pub goto_error : Option ℕ → Option ℕ
goto_error None = Some 4
goto_error (Some line) = None

abbrev pub gosub_error : Option ℕ → List ℕ → Option ℕ
gosub_error None calls = Some 4
gosub_error (Some line) calls = error_if 5 (nat_le 4 (length calls))

abbrev pub place_error : Control → Place → List Bool → Option ℕ
place_error c (ops.register r) given = error_if 3 (nat_le (registers c) r)
place_error c ops.index_register given = None
place_error c ops.through_index given =
    error_if 3 (answer_at 0 given || nat_le (registers c) (number_given given))

-- the error of an operation, if it errs
abbrev pub error_of : Control → Operation → List Bool → Option ℕ
error_of c ops.divide given = error_if 0 (answer_at 0 given)
error_of c ops.remainder given = error_if 0 (answer_at 0 given)
error_of c ops.square_root given = error_if 0 (answer_at 0 given)
error_of c ops.double_divide given = error_if 0 (answer_at 0 given || answer_at 1 given)
error_of c ops.double_remainder given = error_if 0 (answer_at 0 given || answer_at 1 given)
error_of c (ops.rotate_many way) given = error_if 2 (answer_at 0 given)
error_of c ops.mask_left given = error_if 2 (answer_at 0 given)
error_of c ops.mask_right given = error_if 2 (answer_at 0 given)
error_of c ops.set_bit given = error_if 2 (answer_at 0 given)
error_of c ops.clear_bit given = error_if 2 (answer_at 0 given)
error_of c ops.test_bit given = error_if 2 (answer_at 0 given)
error_of c ops.set_size given = error_if 2 (answer_at 0 given || nat_lt 64 (number_given given))
error_of c (ops.store place) given = place_error c place given
error_of c (ops.recall place) given = place_error c place given
error_of c ops.exchange_through given = place_error c ops.through_index given
error_of c (ops.goto target) given = goto_error (target_line c target given)
error_of c (ops.gosub target) given = gosub_error (target_line c target given) c.calls
error_of c _ given = None

-- ---- what an operation that doesn't err does

-- whether stack lift is enabled afterwards
abbrev pub lift_after : Operation → Bool → Bool
lift_after ops.enter lift = false
lift_after ops.clear_x lift = false
lift_after (ops.set_base base) lift = lift
lift_after (ops.set_mode mode) lift = lift
lift_after ops.clear_registers lift = lift
lift_after (ops.test t) lift = lift
lift_after ops.decrement_skip lift = lift
lift_after ops.increment_skip lift = lift
lift_after (ops.set_flag n) lift = lift
lift_after (ops.clear_flag n) lift = lift
lift_after (ops.test_flag n) lift = lift
lift_after (ops.label n) lift = lift
lift_after (ops.goto target) lift = lift
lift_after (ops.gosub target) lift = lift
lift_after ops.to_caller lift = lift
lift_after ops.pause lift = lift
lift_after ops.run_stop lift = lift
lift_after (ops.window k) lift = lift
lift_after ops.window_left lift = lift
lift_after ops.window_right lift = lift
lift_after _ lift = true

abbrev pub window_after : Operation → ℕ → ℕ
window_after (ops.window k) now = k
window_after ops.window_left now = min (now + 1) 7
window_after ops.window_right now = now - 1
window_after _ now = 0

-- digit entry is over
abbrev pub entry_ended : Control → Control
entry_ended c = record c { entry = None }

abbrev pub skipping : Bool → Control → Control
skipping skips c = record c { line = if skips then min (c.line + 1) (lines c + 1) else c.line }

abbrev pub at_line : Option ℕ → Control → Control
at_line None c = c
at_line (Some line) c = record c { line = line }

-- the word size that the answers to WSIZE spell
abbrev pub size_given : List Bool → ℕ
size_given given = if number_given given == 0 then 64 else number_given given

-- to the last pending return, or the end of the run
abbrev pub returned : Control → List ℕ → Control × Stop
returned c [] = (record c { line = 0 }, Ended Return)
returned c (line ∷ calls) = (record c { line = line; calls = calls }, Go)

-- what is special to an operation
abbrev pub moved : Control → Operation → List Bool → Control × Stop
moved c (ops.set_base base) given = (record c { base = base }, Go)
moved c (ops.set_mode mode) given = (record c { mode = mode }, Go)
moved c ops.set_size given = (record c { size = size_given given }, Go)
moved c (ops.test t) given = (skipping (not (answer_at 0 given)) c, Go)
moved c (ops.test_flag n) given = (skipping (not (answer_at 0 given)) c, Go)
moved c ops.test_bit given = (skipping (not (answer_at 1 given)) c, Go)
moved c ops.decrement_skip given = (skipping (answer_at 0 given) c, Go)
moved c ops.increment_skip given = (skipping (answer_at 0 given) c, Go)
moved c (ops.goto target) given = (at_line (target_line c target given) c, Go)
moved c (ops.gosub target) given = (at_line (target_line c target given) (record c { calls = c.line ∷ c.calls }), Go)
moved c ops.to_caller given = returned c c.calls
moved c ops.run_stop given = (c, Ended Halt)
moved c _ given = (c, Go)

abbrev pub done : Control → Operation → List Bool → Control × Stop
done c op given =
    moved (record c { entry = None; lift = lift_after op c.lift; window = window_after op c.window }) op given

-- ---- the step

abbrev pub erred_or_done : Control → Operation → List Bool → Option ℕ → Control × Stop
erred_or_done c op given (Some n) = (entry_ended c, Ended (Error n))
erred_or_done c op given None = done c op given

abbrev pub digit_step : Control → ℕ → Control
digit_step c d = if is_ignored c d then c else record c { entry = Some (longer_entry c d); lift = true; window = 0 }

-- the new control, and whether the run goes on, from the answers to what the operation asks
abbrev pub control_step : Control → Operation → List Bool → Control × Stop
control_step c (ops.digit d) given = (digit_step c d, Go)
control_step c op given = erred_or_done c op given (error_of c op given)
