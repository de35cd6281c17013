use Rattle.std.proofs.Common.{◌∙◌, ap, refl}
use Rattle.hp_model.specs.Operations as ops
use Rattle.hp_model.specs.State.{carry}
use Rattle.hp_model.specs.DataStep.{of_x}
use Rattle.hp_model.specs.WordOperations.{rotated_of}
use Rattle.hp_ops.specs.Meaning.{way}
use Rattle.hp_control.specs.Controls.{control_of}
use Rattle.jd_circuit.specs.Meaning.{lit_value}
use Rattle.jd_vectors.specs.Number.{number}
use Rattle.jd_operations.proofs.Placed.{put_alone}
use Rattle.jd_operations.proofs.rotations.change_rotate.Goals as goal

pub returns : goal.returns
returns c = λ net given h listing bounded none.
    let k = control_of c.args.control.now listing in
    let turn = way c.args.op in
    let old = c.args.content.now in
    let a = c.rotated-answer.ensures in
    let f = c.flag-carry.ensures in
    put_alone net k (ops.rotate turn) given of_x (λ d. rotated_of turn k.size d.x (carry d)) old _ _ h (a.fits _ h.x.inside (f.of _ h.flags))
    (λ val. a.meaning val ∙ ap (λ w. rotated_of turn w (number val old.x) (lit_value val c.flag-carry.result)) h.x.size
    ∙ ap (rotated_of turn k.size (number val old.x)) (f.meaning val))
    (λ d. refl) c.answer_x.ensures
