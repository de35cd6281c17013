-- No operation changes a nibble that it doesn't write.
use Rattle.std.proofs.Common.{◌≡◌, ℕ, ◌≤◌, ◌<◌, Bool, true, false, nat_lt, List, Option, Some, None, length, replicate, slice_index, refl, sym, ◌∙◌, ap, arith, if◌then◌else◌}
use Rattle.std.proofs.lemmas.Bool.Decides.{nat_tests}
use Rattle.std.proofs.lemmas.List.{get_or_past, length-replicate}
use Rattle.hp_model.specs.declared.Answer.{Answer}
use Rattle.hp_model.specs.declared.End.TheVariants.{Error}
use Rattle.hp_model.specs.declared.Stop.TheVariants.{Ended}
use Rattle.hp_model.specs.Run.{operated}
use Rattle.hp_model.specs.Operations.{Operation, Place}
use Rattle.hp_model.specs.Operations as ops
use Rattle.hp_model.specs.State.{Control, Data, Machine, carry}
use Rattle.hp_model.specs.Memory.{is_of_register, nibble_written, with_register}
use Rattle.hp_model.specs.DataStep.{changed, entered, answered, set_if_told, pushed, lifted, with_x, dropped, saved, is_error, read_place}
use Rattle.hp_model.specs.ControlStep.{control_step, erred_or_done, error_of, is_ignored, longer_entry}
use Rattle.hp_model.specs.Questions.{answers, x_magnitude}
use Rattle.hp_model.specs.WordOperations.{shifted_arithmetic_of, rotated_times_of}
use Rattle.hp_model.specs.WrittenNibbles.{writes, is_writer, may_write}
use Rattle.hp_model.proofs.Tabulated.{get-tabulated, get-tabulated_past}

pub set_if_told-nibbles : (n : ℕ) (told : Option Bool) (d : Data) → (set_if_told n told d).nibbles ≡ d.nibbles
set_if_told-nibbles n None d = refl
set_if_told-nibbles n (Some b) d = refl

pub answered-nibbles : (a : Answer) (d : Data) → (answered a d).nibbles ≡ d.nibbles
answered-nibbles a d = set_if_told-nibbles 5 a.range (set_if_told 4 a.carry d) ∙ set_if_told-nibbles 4 a.carry d

pub pushed-nibbles : (c : Control) (x : ℕ) (d : Data) → (pushed c x d).nibbles ≡ d.nibbles
pushed-nibbles c x d = by_lift c.lift
  where
    by_lift : (t : Bool) → (with_x x (if t then lifted d else d)).nibbles ≡ d.nibbles
    by_lift true = refl
    by_lift false = refl

entered-nibbles : (number : ℕ) (c : Control) (entry : Option ℕ) (d : Data) → (entered number c entry d).nibbles ≡ d.nibbles
entered-nibbles number c None d = pushed-nibbles c number d
entered-nibbles number c (Some entry) d = refl

digit-nibbles : (c : Control) (n : ℕ) (given : List Bool) (d : Data) → (changed c (ops.digit n) given d).nibbles ≡ d.nibbles
digit-nibbles c n given d = by_test (is_ignored c n)
  where
    by_test : (t : Bool) → (if t then d else entered (longer_entry c n) c c.entry d).nibbles ≡ d.nibbles
    by_test true = refl
    by_test false = entered-nibbles (longer_entry c n) c c.entry d

pub changed-nibbles : (c : Control) (op : Operation) (given : List Bool) (d : Data) → is_writer op ≡ false → (changed c op given d).nibbles ≡ d.nibbles
changed-nibbles c (ops.digit n) given d h = digit-nibbles c n given d
changed-nibbles c (ops.store (ops.register r)) given d h = cc
changed-nibbles c (ops.store ops.through_index) given d h = cc
changed-nibbles c ops.exchange_through given d h = cc
changed-nibbles c ops.clear_registers given d h = cc
changed-nibbles c (ops.rotate_many way) given d h =
    answered-nibbles (rotated_times_of way c.size (x_magnitude c d) d.y (carry d)) (dropped (saved d))
changed-nibbles c ops.shift_arithmetic given d h = answered-nibbles (shifted_arithmetic_of c.size c.mode d.x) (saved d)
changed-nibbles c ops.last_x given d h = pushed-nibbles c d.last d
changed-nibbles c (ops.recall place) given d h = pushed-nibbles c (read_place c place d) d
changed-nibbles c _ given d h = refl

-- ---- registers

pub with_register-outside : (w : ℕ) (nibbles : List ℕ) (r v j : ℕ) → is_of_register w r j ≡ false
    → slice_index (with_register w nibbles r v) j ≡ slice_index nibbles j
with_register-outside w nibbles r v j outside = by_place (nat_lt j (length nibbles)) refl
  where
    by_place : (t : Bool) → nat_lt j (length nibbles) ≡ t → slice_index (with_register w nibbles r v) j ≡ slice_index nibbles j
    by_place true inside =
        let below : j < length nibbles = grind (arith, nat_tests, inside) in
        get-tabulated (nibble_written w nibbles r v) (length nibbles) j below ∙ rw outside refl
    by_place false past =
        let above : length nibbles ≤ j = grind (arith, nat_tests, past) in
        get-tabulated_past (nibble_written w nibbles r v) (length nibbles) j above ∙ sym (get_or_past nibbles j 0 above)

-- ---- an operation

-- a nibble that an operation which doesn't err may not write
special-nibble : (op : Operation) (given : List Bool) (m : Machine) (j : ℕ) → may_write op m j ≡ false
    → slice_index (changed m.control op given m.contents).nibbles j ≡ slice_index m.contents.nibbles j
special-nibble (ops.store (ops.register r)) given m j h = with_register-outside m.control.size m.contents.nibbles r m.contents.x j h
special-nibble (ops.store ops.through_index) given m j h = with_register-outside m.control.size m.contents.nibbles m.contents.index m.contents.x j h
special-nibble ops.exchange_through given m j h = with_register-outside m.control.size m.contents.nibbles m.contents.index m.contents.x j h
special-nibble ops.clear_registers given m j h =
    let past : length m.contents.nibbles ≤ j = grind (arith, nat_tests, h) in
    get_or_past (replicate (length m.contents.nibbles) 0) j 0 (omega (arith, length-replicate {A = ℕ} (length m.contents.nibbles) 0))
    ∙ sym (get_or_past m.contents.nibbles j 0 past)
special-nibble (ops.store ops.index_register) given m j h = refl
special-nibble op given m j h = ap (λ nibbles. slice_index nibbles j) (changed-nibbles m.control op given m.contents refl)

erred_or_done-stops : (c : Control) (op : Operation) (given : List Bool) (error : Option ℕ) (n : ℕ) → error ≡ Some n → (erred_or_done c op given error).1 ≡ Ended (Error n)
erred_or_done-stops c op given None n e = cc
erred_or_done-stops c op given (Some k) n e = cc

erred-stops : (c : Control) (op : Operation) (given : List Bool) (n : ℕ) → error_of c op given ≡ Some n → (control_step c op given).1 ≡ Ended (Error n)
erred-stops c (ops.digit d) given n e = cc
erred-stops c op given n e = erred_or_done-stops c op given (error_of c op given) n e

pub step-nibble : (op : Operation) (m : Machine) (j : ℕ) → writes op m j ≡ false → slice_index (operated op m).machine.contents.nibbles j ≡ slice_index m.contents.nibbles j
step-nibble op m j unwritten = by_error (error_of c op given) refl
  where
    c : Control
    c = m.control

    given : List Bool
    given = answers m.control op m.contents

    by_stop : (t : Bool) → may_write op m j ≡ false → slice_index (if t then m.contents else changed c op given m.contents).nibbles j ≡ slice_index m.contents.nibbles j
    by_stop true h = refl
    by_stop false h = special-nibble op given m j h

    by_error : (e : Option ℕ) → error_of c op given ≡ e → slice_index (operated op m).machine.contents.nibbles j ≡ slice_index m.contents.nibbles j
    by_error None e = by_stop (is_error (control_step c op given).1) (rw e at unwritten)
    by_error (Some n) e = rw (erred-stops c op given n e) refl
