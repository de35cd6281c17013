use Rattle.std.proofs.Common.{◌∙◌, ap, refl}
use Rattle.hp_model.specs.Operations as ops
use Rattle.hp_model.specs.DataStep.{of_x}
use Rattle.hp_model.specs.WordOperations.{shifted_arithmetic_of, shifted_left_of, shifted_right_of}
use Rattle.hp_control.specs.Controls.{control_of}
use Rattle.jd_vectors.specs.Number.{number}
use Rattle.jd_operations.proofs.Placed.{put_alone}
use Rattle.jd_operations.proofs.shifts.change_shift.Goals as goal

pub returns-in-Left-clause-done : goal.returns-in-Left-clause-done
returns-in-Left-clause-done g c = λ given. rw c.in-Left.is (λ listing bounded none.
    let k = control_of c.args.control.now listing in
    let old = c.args.content.now in
    let a = c.shifted_left-answer.ensures in
    put_alone _ k ops.shift_left given of_x (λ d. shifted_left_of k.size d.x) old _ _ c.requires.fits (a.fits _ c.requires.fits.x.inside)
    (λ val. a.meaning val ∙ ap (λ w. shifted_left_of w (number val old.x)) c.requires.fits.x.size) (λ d. refl) c.answer_x.ensures)

pub returns-in-Right-clause-done : goal.returns-in-Right-clause-done
returns-in-Right-clause-done g c = λ given. rw c.in-Right.is (λ listing bounded none.
    let k = control_of c.args.control.now listing in
    let old = c.args.content.now in
    let a = c.shifted_right-answer.ensures in
    put_alone _ k ops.shift_right given of_x (λ d. shifted_right_of d.x) old _ _ c.requires.fits (a.fits _ c.requires.fits.x.inside)
    (λ val. a.meaning val) (λ d. refl) c.answer_x-in-Right.ensures)

pub returns-in-Arithmetic-clause-done : goal.returns-in-Arithmetic-clause-done
returns-in-Arithmetic-clause-done g c = λ given. rw c.in-Arithmetic.is (λ listing bounded none.
    let k = control_of c.args.control.now listing in
    let old = c.args.content.now in
    let a = c.shifted_arithmetic-answer.ensures in
    put_alone _ k ops.shift_arithmetic given of_x (λ d. shifted_arithmetic_of k.size k.mode d.x) old _ _ c.requires.fits (a.fits _ c.requires.fits.x.inside)
    (λ val. a.meaning val ∙ ap (λ w. shifted_arithmetic_of w k.mode (number val old.x)) c.requires.fits.x.size) (λ d. refl) c.answer_x-in-Arithmetic.ensures)

pub returns-in-Justify-clause-done : goal.returns-in-Justify-clause-done
returns-in-Justify-clause-done g c = λ given. rw c.in-Justify.is (c.change_justify.ensures.done given)
