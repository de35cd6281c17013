-- What no operation changes: memory's size, the program and its blocks.
use Rattle.std.proofs.Common.{◌≡◌, ℕ, List, [], ◌∷◌, Bool, true, false, Option, Some, None, refl}
use Rattle.hp_model.specs.State.{Control}
use Rattle.hp_model.specs.Operations.{Operation}
use Rattle.hp_model.specs.Operations as ops
use Rattle.hp_model.specs.ControlStep.{control_step, moved, done, erred_or_done, error_of, digit_step, is_ignored, at_line, target_line, returned, lift_after, window_after}

pub record KeepsProgram (old new : Control) : Type 0 where
  pub bytes : new.bytes ≡ old.bytes
  pub program : new.program ≡ old.program
  pub blocks : new.blocks ≡ old.blocks

at_line_keeps : (line : Option ℕ) (c : Control) → KeepsProgram c (at_line line c)
at_line_keeps None c = record { bytes = refl; program = refl; blocks = refl }
at_line_keeps (Some line) c = record { bytes = refl; program = refl; blocks = refl }

returned_keeps : (c : Control) (calls : List ℕ) → KeepsProgram c (returned c calls).0
returned_keeps c [] = record { bytes = refl; program = refl; blocks = refl }
returned_keeps c (line ∷ calls) = record { bytes = refl; program = refl; blocks = refl }

special_keeps : (c : Control) (op : Operation) (given : List Bool) → KeepsProgram c (moved c op given).0
special_keeps c (ops.goto target) given = at_line_keeps (target_line c target given) c
special_keeps c (ops.gosub target) given =
    let s = at_line_keeps (target_line c target given) (record c { calls = c.line ∷ c.calls }) in
    record { bytes = s.bytes; program = s.program; blocks = s.blocks }
special_keeps c ops.to_caller given = returned_keeps c c.calls
special_keeps c _ given = record { bytes = refl; program = refl; blocks = refl }

done_keeps : (c : Control) (op : Operation) (given : List Bool) → KeepsProgram c (done c op given).0
done_keeps c op given =
    let s = special_keeps (record c { entry = None; lift = lift_after op c.lift; window = window_after op c.window }) op given in
    record { bytes = s.bytes; program = s.program; blocks = s.blocks }

erred_or_done_keeps : (c : Control) (op : Operation) (given : List Bool) (error : Option ℕ) → KeepsProgram c (erred_or_done c op given error).0
erred_or_done_keeps c op given None = done_keeps c op given
erred_or_done_keeps c op given (Some n) = record { bytes = refl; program = refl; blocks = refl }

digit_keeps : (c : Control) (d : ℕ) (t : Bool) → is_ignored c d ≡ t → KeepsProgram c (digit_step c d)
digit_keeps c d true e = rw (e, digit_step) (record { bytes = refl; program = refl; blocks = refl })
digit_keeps c d false e = rw (e, digit_step) (record { bytes = refl; program = refl; blocks = refl })

pub control_step-keeps : (c : Control) (op : Operation) (given : List Bool) → KeepsProgram c (control_step c op given).0
control_step-keeps c (ops.digit d) given = digit_keeps c d (is_ignored c d) refl
control_step-keeps c op given = erred_or_done_keeps c op given (error_of c op given)
