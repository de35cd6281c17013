use Rattle.std.proofs.Common.{◌-◌, ◌*◌, ◌%◌, ◌^◌, length, ap, ◌∙◌}
use Rattle.jd_vectors.specs.Number.{number}
use Rattle.jd_places.proofs.SingleBits.{moved_ones}
use Rattle.jd_places.proofs.masks.upper_ones.Goals as goal

pub shift_left-requires-clause-first : goal.shift_left-requires-clause-first
shift_left-requires-clause-first g c = c.low_ones-all.ensures.inside _

pub returns-clause-number : goal.returns-clause-number
returns-clause-number g c = λ val s few.
    let m = number val c.args.places.now in
    c.in_ok-r.ensures.number val s
    ∙ ap (λ n. n * 2 ^ m % 2 ^ length c.low_ones-all.result) (c.low_ones-all.ensures.number val)
    ∙ ap (λ n. (2 ^ c.args.size - 1) * 2 ^ m % 2 ^ n) c.low_ones-all.ensures.length
    ∙ moved_ones c.args.size m few
