use Rattle.std.proofs.Common.{◌∙◌, refl}
use Rattle.hp_control.specs.Controls.{control_of}
use Rattle.jd_content.specs.Meaning.{data_on}
use Rattle.jd_content.proofs.Contents.{fits_grow}
use Rattle.jd_operations.proofs.Groups.{counted_is}
use Rattle.jd_operations.proofs.loops.change_loop.Goals as goal

pub returns-clause-done : goal.returns-clause-done
returns-clause-done g c = λ given listing bounded none.
    let k = control_of c.args.control.now listing in
    let old = c.args.content.now in
    let a = c.in_ok-pattern.ensures in
    let w = c.widened-content.ensures in
    let h = fits_grow _ _ _ _ a.grows c.requires.fits in
    record {
      contents = λ val s e. counted_is c.args.op k given (data_on val old) _ (w.same val ∙ a.number val s);
      fits = record {
        x = h.x;
        y = h.y;
        z = h.z;
        t = h.t;
        l = h.l;
        i = record { size = w.length; inside = w.inside _ a.of };
        flags = h.flags;
        nibbles = h.nibbles;
      };
      same = refl;
      grows = a.grows;
    }
