use Rattle.std.proofs.Common.{◌*◌, ◌%◌, ◌^◌, ◌∙◌, ap, refl, length}
use Rattle.hp_model.specs.WordOperations.{left_shifts}
use Rattle.hp_control.specs.Controls.{control_of}
use Rattle.jd_vectors.specs.Number.{number}
use Rattle.jd_content.specs.Meaning.{data_on}
use Rattle.jd_content.proofs.Contents.{fits_grow}
use Rattle.jd_operations.proofs.Groups.{justified_is, shifts_kept}
use Rattle.jd_operations.proofs.shifts.change_justify.Goals as goal

pub returns-clause-done : goal.returns-clause-done
returns-clause-done g c = λ given listing bounded none.
    let k = control_of c.args.control.now listing in
    let old = c.args.content.now in
    let a = c.in_ok-count.ensures in
    let size = c.requires.fits.x.size in
    let h = fits_grow _ _ _ _ a.grows c.requires.fits in
    rw (c.lift.ensures, c.save.ensures) (record {
      contents = λ val s e. justified_is k given (data_on val old) _ _
          (c.resized.ensures.number val ∙ ap (λ n. n % 2 ^ k.size) (a.places val s) ∙ shifts_kept (length old.x) k.size (number val old.x) size)
          (a.word val s ∙ ap (λ w. number val old.x * 2 ^ left_shifts w (number val old.x)) size);
      fits = record {
        x = record { size = c.resized.ensures.length; inside = c.resized.ensures.inside _ a.count };
        y = record { size = a.length ∙ size; inside = a.of };
        z = h.y;
        t = h.z;
        l = h.x;
        i = h.i;
        flags = h.flags;
        nibbles = h.nibbles;
      };
      same = refl;
      grows = a.grows;
    })
