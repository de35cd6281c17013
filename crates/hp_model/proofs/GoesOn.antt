-- A run that goes on stands at a line from 1 on, if it and the pending returns did.
use Rattle.std.proofs.Common.{◌≡◌, ℕ, zero, suc, ◌+◌, ◌-◌, ◌≤◌, max, List, [], ◌∷◌, Bool, true, false, Option, Some, None, refl, arith, not, if◌then◌else◌}
use Rattle.hp_model.specs.declared.Stop.TheVariants.{Go}
use Rattle.hp_model.specs.declared.Stop.{Stop}
use Rattle.hp_model.specs.Lists.{first_from}
use Rattle.hp_model.specs.State.{Control, lines}
use Rattle.hp_model.specs.Operations.{Operation, Target}
use Rattle.hp_model.specs.Operations as ops
use Rattle.hp_model.specs.Laws.{are_lines, Stands}
use Rattle.hp_model.specs.ControlStep.{control_step, moved, erred_or_done, error_of, digit_step, is_ignored, at_line, target_line, label_line, is_label_line, or_else, returned, lift_after, window_after, skipping, answer_at, number_given}

abbrev GoesOn : Control × Stop → Type 0
GoesOn r = r.1 ≡ Go → Stands r.0

abbrev IsPast : ℕ → Option ℕ → Type 0
IsPast first None = Unit {0}
IsPast first (Some line) = first ≤ line

first_is_past : (p : ℕ → Bool) (first count : ℕ) → IsPast first (first_from p first count)
first_is_past p first zero = tt
first_is_past p first (suc n) = by_test (p first) (first_is_past p (suc first) n)
  where
    weaken : (found : Option ℕ) → IsPast (suc first) found → IsPast first found
    weaken None h = tt
    weaken (Some line) h = omega arith

    by_test : (t : Bool) → IsPast (suc first) (first_from p (suc first) n) → IsPast first (elim t [ true ↦ Some first | false ↦ first_from p (suc first) n ])
    by_test true h = omega arith
    by_test false h = weaken (first_from p (suc first) n) h

or_is_past : (a b : Option ℕ) → IsPast 1 a → IsPast 1 b → IsPast 1 (or_else a b)
or_is_past None b p q = q
or_is_past (Some line) b p q = p

from_one : (first : ℕ) (found : Option ℕ) → 1 ≤ first → IsPast first found → IsPast 1 found
from_one first None h p = tt
from_one first (Some line) h p = omega arith

label_is_past : (c : Control) (first n : ℕ) → 1 ≤ first → IsPast 1 (label_line c first n)
label_is_past c first n h = or_is_past _ _ (from_one first _ h (first_is_past (is_label_line c n) first (lines c + 1 - first))) (first_is_past (is_label_line c n) 1 (first - 1))

target_is_past : (c : Control) (target : Target) (given : List Bool) → IsPast 1 (target_line c target given)
target_is_past c (ops.label_named n) given = label_is_past c (max c.line 1) n (omega arith)
target_is_past c ops.label_in_index given = by_test (answer_at 0 given)
  where
    by_test : (t : Bool) → IsPast 1 (if t then None else label_line c (max c.line 1) (number_given given))
    by_test true = tt
    by_test false = label_is_past c (max c.line 1) (number_given given) (omega arith)

at_line_stands : (line : Option ℕ) (c : Control) → IsPast 1 line → Stands c → Stands (at_line line c)
at_line_stands None c p s = s
at_line_stands (Some line) c p s = record { line = p; calls = s.calls }

returned_goes : (c : Control) (calls : List ℕ) → are_lines calls → GoesOn (returned c calls)
returned_goes c [] h goes = cc
returned_goes c (line ∷ calls) h goes = record { line = h.0; calls = h.1 }

skipping_stands : (t : Bool) (c : Control) → Stands c → Stands (skipping t c)
skipping_stands true c s = record { line = omega (arith, s.line); calls = s.calls }
skipping_stands false c s = record { line = s.line; calls = s.calls }

special_goes : (c : Control) (op : Operation) (given : List Bool) → Stands c → GoesOn (moved c op given)
special_goes c (ops.test t) given s goes = skipping_stands (not (answer_at 0 given)) c s
special_goes c (ops.test_flag n) given s goes = skipping_stands (not (answer_at 0 given)) c s
special_goes c ops.test_bit given s goes = skipping_stands (not (answer_at 1 given)) c s
special_goes c ops.decrement_skip given s goes = skipping_stands (answer_at 0 given) c s
special_goes c ops.increment_skip given s goes = skipping_stands (answer_at 0 given) c s
special_goes c (ops.goto target) given s goes = at_line_stands (target_line c target given) c (target_is_past c target given) s
special_goes c (ops.gosub target) given s goes = at_line_stands (target_line c target given) (record c { calls = c.line ∷ c.calls }) (target_is_past c target given) (record { line = s.line; calls = (s.line, s.calls) })
special_goes c ops.to_caller given s goes = returned_goes c c.calls s.calls goes
special_goes c ops.run_stop given s goes = cc
special_goes c _ given s goes = record { line = s.line; calls = s.calls }

erred_or_done_goes : (c : Control) (op : Operation) (given : List Bool) (error : Option ℕ) → Stands c → GoesOn (erred_or_done c op given error)
erred_or_done_goes c op given None s goes =
    special_goes (record c { entry = None; lift = lift_after op c.lift; window = window_after op c.window }) op given (record { line = s.line; calls = s.calls }) goes
erred_or_done_goes c op given (Some n) s goes = cc

digit_stands : (c : Control) (d : ℕ) (t : Bool) → is_ignored c d ≡ t → Stands c → Stands (digit_step c d)
digit_stands c d true e s = rw (e, digit_step) (record { line = s.line; calls = s.calls })
digit_stands c d false e s = rw (e, digit_step) (record { line = s.line; calls = s.calls })

-- after an operation the run stands at a line again, unless it ended
pub control_step-goes : (c : Control) (op : Operation) (given : List Bool) → Stands c → (control_step c op given).1 ≡ Go → Stands (control_step c op given).0
control_step-goes c (ops.digit d) given s goes = digit_stands c d (is_ignored c d) refl s
control_step-goes c op given s goes = erred_or_done_goes c op given (error_of c op given) s goes
