-- Steps that err, and steps that don't: what they leave, whether they end in an error, and their word size.
use Rattle.std.proofs.Common.{◌≡◌, ℕ, List, [], ◌∷◌, Bool, true, false, Option, Some, None, refl, ap, ◌∙◌}
use Rattle.hp_model.specs.declared.End.TheVariants.{Error}
use Rattle.hp_model.specs.declared.Stop.TheVariants.{Ended}
use Rattle.hp_model.specs.Operations.{Operation}
use Rattle.hp_model.specs.Operations as ops
use Rattle.hp_model.specs.State.{Control, Data}
use Rattle.hp_model.specs.ControlStep.{control_step, error_of, erred_or_done, entry_ended, moved, done, digit_step, is_ignored, at_line, target_line, returned, lift_after, window_after}
use Rattle.hp_model.specs.DataStep.{is_error, data_step, changed}
use Rattle.hp_control.specs.Controls.{size_after}

-- an error: only entry is over
pub step_errs : (c : Control) (op : Operation) (given : List Bool) (n : ℕ) → error_of c op given ≡ Some n → control_step c op given ≡ (entry_ended c, Ended (Error n))
step_errs c (ops.digit d) given n e = cc
step_errs c op given n e = ap (erred_or_done c op given) e

-- and the data stays
pub data_errs : (c : Control) (op : Operation) (given : List Bool) (n : ℕ) (d : Data) → error_of c op given ≡ Some n → d ≡ data_step c op given d
data_errs c op given n d e = rw (step_errs c op given n e) refl

-- ---- no error

returned_goes : (c : Control) (calls : List ℕ) → is_error (returned c calls).1 ≡ false
returned_goes c [] = refl
returned_goes c (line ∷ calls) = refl

moved_goes : (c : Control) (op : Operation) (given : List Bool) → is_error (moved c op given).1 ≡ false
moved_goes c ops.to_caller given = returned_goes c c.calls
moved_goes c _ given = refl

done_goes : (c : Control) (op : Operation) (given : List Bool) → is_error (done c op given).1 ≡ false
done_goes c op given = moved_goes (record c { entry = None; lift = lift_after op c.lift; window = window_after op c.window }) op given

pub step_goes : (c : Control) (op : Operation) (given : List Bool) → error_of c op given ≡ None → is_error (control_step c op given).1 ≡ false
step_goes c (ops.digit d) given e = refl
step_goes c op given e = ap (λ o. is_error (erred_or_done c op given o).1) e ∙ done_goes c op given

-- the data changes
pub data_goes : (c : Control) (op : Operation) (given : List Bool) (d : Data) → error_of c op given ≡ None → changed c op given d ≡ data_step c op given d
data_goes c op given d e = rw (step_goes c op given e) refl

-- ---- the word size

at_line-size : (line : Option ℕ) (c : Control) → (at_line line c).size ≡ c.size
at_line-size None c = refl
at_line-size (Some line) c = refl

returned-size : (c : Control) (calls : List ℕ) → (returned c calls).0.size ≡ c.size
returned-size c [] = refl
returned-size c (line ∷ calls) = refl

moved-size : (c : Control) (op : Operation) (given : List Bool) → (moved c op given).0.size ≡ size_after op given c.size
moved-size c (ops.goto target) given = at_line-size (target_line c target given) c
moved-size c (ops.gosub target) given = at_line-size (target_line c target given) (record c { calls = c.line ∷ c.calls })
moved-size c ops.to_caller given = returned-size c c.calls
moved-size c ops.set_size given = refl
moved-size c _ given = refl

digit-size : (c : Control) (d : ℕ) (t : Bool) → is_ignored c d ≡ t → (digit_step c d).size ≡ c.size
digit-size c d true e = rw (e, digit_step) refl
digit-size c d false e = rw (e, digit_step) refl

pub step-size : (c : Control) (op : Operation) (given : List Bool) → error_of c op given ≡ None → (control_step c op given).0.size ≡ size_after op given c.size
step-size c (ops.digit d) given e = digit-size c d (is_ignored c d) refl
step-size c op given e = ap (λ o. (erred_or_done c op given o).0.size) e ∙ moved-size (record c { entry = None; lift = lift_after op c.lift; window = window_after op c.window }) op given
