use Rattle.std.proofs.Common.{◌∙◌, ◌<◌, ap, refl, subst, sym, ◌+◌, length, arith}
use Rattle.hp_model.specs.Operations as ops
use Rattle.hp_model.specs.Questions.{x_magnitude}
use Rattle.hp_model.specs.DataStep.{of_three}
use Rattle.hp_model.specs.Words.{magnitude}
use Rattle.hp_model.specs.WordOperations.{double_remainder_of}
use Rattle.hp_control.specs.Controls.{control_of}
use Rattle.jd_vectors.specs.Number.{number}
use Rattle.jd_content.specs.Meaning.{data_on}
use Rattle.jd_content.proofs.Alone.{put_row}
use Rattle.jd_content.proofs.Told.{not_erring}
use Rattle.jd_operations.proofs.Bounds.{rectangles}
use Rattle.jd_operations.proofs.Groups.{double_divisor}
use Rattle.jd_operations.proofs.double.change_remainder.Goals as goal

pub returns-clause-done : goal.returns-clause-done
returns-clause-done g c = λ given listing bounded none.
    let k = control_of c.args.control.now listing in
    let old = c.args.content.now in
    let a = c.in_ok-answer.ensures in
    let size = c.requires.fits.x.size in
    put_row _ _ k ops.double_remainder given of_three (λ d. double_remainder_of k.size k.mode d.y d.z d.x) old _ _ c.requires.fits a.grows a.fits
    (λ val s e.
    let divisor = double_divisor k (x_magnitude k (data_on val old)) given _ (not_erring 0 _ none) e in
    a.meaning val s (subst (λ w. 0 < magnitude w k.mode (number val old.x)) (sym size) divisor)
    ∙ ap (λ w. double_remainder_of w k.mode (number val old.y) (number val old.z) (number val old.x)) size)
    (λ d. refl) c.answer_three.ensures

pub returns-clause-more : goal.returns-clause-more
returns-clause-more g c = omega (arith, c.double_remainder.ensures.more, rectangles 16 (length c.args.content.now.x) (length c.args.content.now.x + 1) (omega arith))

pub returns-in_err-answer-clause-more : goal.returns-in_err-answer-clause-more
returns-in_err-answer-clause-more g c = omega (arith, c.double_remainder.ensures.more, rectangles 16 (length c.args.content.now.x) (length c.args.content.now.x + 1) (omega arith))
