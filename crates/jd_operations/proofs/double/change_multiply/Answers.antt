use Rattle.std.proofs.Common.{◌∙◌, ap, refl, false, length, arith}
use Rattle.hp_model.specs.WordOperations.{double_product}
use Rattle.hp_control.specs.Controls.{control_of}
use Rattle.jd_circuit.specs.declared.literals.Lit.TheVariants.{Const}
use Rattle.jd_vectors.specs.Number.{number}
use Rattle.jd_content.specs.Meaning.{data_on}
use Rattle.jd_content.proofs.Contents.{fits_grow, flag_set, inside_set}
use Rattle.jd_operations.proofs.Bounds.{squares}
use Rattle.jd_operations.proofs.Groups.{multiplied_is}
use Rattle.jd_operations.proofs.double.change_multiply.Goals as goal

pub returns-clause-done : goal.returns-clause-done
returns-clause-done g c = λ given listing bounded none.
    let k = control_of c.args.control.now listing in
    let old = c.args.content.now in
    let a = c.in_ok-upper.ensures in
    let size = c.requires.fits.x.size in
    let h = fits_grow _ _ _ _ a.grows c.requires.fits in
    rw c.save.ensures (record {
      contents = λ val s e. multiplied_is (double_product k.size k.mode (number val old.y) (number val old.x)) _ _ (data_on val old) _
          (a.words val s ∙ ap (λ w. double_product w k.mode (number val old.y) (number val old.x)) size) (flag_set val old.flags 5 (Const false));
      fits = record {
        x = record { size = a.upper_length ∙ size; inside = a.upper };
        y = record { size = a.lower_length ∙ size; inside = a.lower };
        z = h.z;
        t = h.t;
        l = h.x;
        i = h.i;
        flags = inside_set _ old.flags 5 (Const false) h.flags (omega arith, omega arith);
        nibbles = h.nibbles;
      };
      same = refl;
      grows = a.grows;
    })

pub returns-clause-more : goal.returns-clause-more
returns-clause-more g c = omega (arith, c.double_multiply.ensures.more, squares 12 (length c.args.content.now.x) (omega arith))

pub returns-in_err-upper-clause-more : goal.returns-in_err-upper-clause-more
returns-in_err-upper-clause-more g c = omega (arith, c.double_multiply.ensures.more, squares 12 (length c.args.content.now.x) (omega arith))
