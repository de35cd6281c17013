use Rattle.std.proofs.Common.{◌^◌, ap, ◌∙◌}
use Rattle.jd_vectors.specs.Number.{number}
use Rattle.jd_places.proofs.SingleBits.{mask_from}
use Rattle.jd_places.proofs.masks.mask_right.Goals as goal

pub returns-clause-of : goal.returns-clause-of
returns-clause-of g c = c.not_lits.ensures.inside _ c.in_ok-upper.ensures.of

pub returns-clause-number : goal.returns-clause-number
returns-clause-number g c = λ val s few.
    mask_from c.args.size (number val c.args.m.now) (number val c.not_lits.result) (number val c.in_ok-upper.upper) few (c.in_ok-upper.ensures.number val s few)
    (c.not_lits.ensures.number val ∙ ap (λ n. 2 ^ n) c.in_ok-upper.ensures.length)
