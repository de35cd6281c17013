use Rattle.std.proofs.Common.{◌∙◌, ap}
use Rattle.hp_ops.specs.Meaning.{of_logic}
use Rattle.hp_control.specs.Controls.{control_of}
use Rattle.jd_vectors.specs.Number.{number}
use Rattle.jd_content.proofs.Alone.{put_row}
use Rattle.jd_operations.specs.Answers.{logic_of, put_logic}
use Rattle.jd_operations.proofs.Groups.{logic_is}
use Rattle.jd_operations.proofs.logic.change_logic.Goals as goal

pub returns-clause-done : goal.returns-clause-done
returns-clause-done g c = λ given listing bounded none.
    let k = control_of c.args.control.now listing in
    let op = c.args.op in
    let old = c.args.content.now in
    let a = c.in_ok-answer.ensures in
    put_row _ _ k (of_logic op) given (put_logic op) (λ d. logic_of op k.size d.y d.x) old _ _ c.requires.fits a.grows a.fits
    (λ val s e. a.meaning val s ∙ ap (λ w. logic_of op w (number val old.y) (number val old.x)) c.requires.fits.x.size)
    (logic_is op k given) c.put.ensures
