use Rattle.std.proofs.Common.{◌≤◌, ◌∙◌, ap, sym, subst, length}
use Rattle.hp_model.specs.Operations as ops
use Rattle.hp_model.specs.State.{carry}
use Rattle.hp_model.specs.Words.{magnitude}
use Rattle.hp_model.specs.Questions.{x_magnitude}
use Rattle.hp_model.specs.DataStep.{of_two}
use Rattle.hp_model.specs.WordOperations.{carrying, turned_times}
use Rattle.hp_ops.specs.Meaning.{way}
use Rattle.hp_control.specs.Controls.{control_of}
use Rattle.jd_circuit.proofs.Values.{grows_trans, solves_before}
use Rattle.jd_vectors.specs.Number.{number}
use Rattle.jd_content.specs.Meaning.{data_on}
use Rattle.jd_content.proofs.Alone.{put_row}
use Rattle.jd_operations.proofs.Groups.{many_is, places_few, turned_answer}
use Rattle.jd_operations.proofs.rotations.change_rotate_many.Goals as goal

pub returns-clause-done : goal.returns-clause-done
returns-clause-done g c = λ given listing bounded none.
    let k = control_of c.args.control.now listing in
    let turn = way c.args.op in
    let old = c.args.content.now in
    let p = c.in_ok-places.ensures in
    let t = c.in_ok-pattern.ensures in
    let f = c.flag-carry.ensures in
    let size = c.requires.fits.x.size in
    let size_of_y = c.requires.fits.y.size in
    put_row _ _ k (ops.rotate_many turn) given of_two
    (λ d. carrying (turned_times (x_magnitude k d) turn k.size d.y (carry d)).0 (turned_times (x_magnitude k d) turn k.size d.y (carry d)).1)
    old _ _ c.requires.fits (grows_trans _ _ _ p.grows t.grows)
    (record { pattern = record { size = t.length ∙ size_of_y ∙ sym size; inside = t.of }; carry = t.carry; range = tt })
    (λ val s e.
    let x = number val old.x in
    let s0 = solves_before _ _ val t.grows s in
    let few = places_few turn k given (data_on val old) none e in
    let here = subst (λ w. magnitude w k.mode x ≤ w) (sym size) few in
    let m = p.number val s0 here ∙ ap (λ w. magnitude w k.mode x) size in
    let within : number val c.in_ok-places.places ≤ length old.y = rw (m, size_of_y) few in
    turned_answer turn _ k.size _ (x_magnitude k (data_on val old)) _ _ _ (carry (data_on val old)) _ size_of_y m (f.meaning val) (t.turned val s within))
    (λ d. many_is turn k (x_magnitude k d) d) c.answer_two.ensures
