use Rattle.hp_ops.specs.Meaning.{of_bits}
use Rattle.hp_control.specs.Controls.{control_of}
use Rattle.jd_content.specs.Meaning.{data_on}
use Rattle.jd_content.proofs.Alone.{put_row}
use Rattle.jd_operations.specs.Answers.{bits_of, put_bits}
use Rattle.jd_operations.proofs.Groups.{bits_at, bits_is, has_place}
use Rattle.jd_operations.proofs.bits.change_bits.Goals as goal

pub returns-clause-done : goal.returns-clause-done
returns-clause-done g c = λ given listing bounded none.
    let k = control_of c.args.control.now listing in
    let op = c.args.op in
    let old = c.args.content.now in
    let a = c.in_ok-answer.ensures in
    put_row _ _ k (of_bits op) given (put_bits op) (λ d. bits_of op k.size k.mode d.y d.x) old _ _ c.requires.fits a.grows a.fits
    (λ val s e. bits_at op _ _ k.mode _ _ _ c.requires.fits.x.size (a.meaning val s) (has_place op k given (data_on val old) none e))
    (bits_is op k given) c.put.ensures
