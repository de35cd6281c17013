use Rattle.std.proofs.Common.{◌*◌, ◌%◌, ◌^◌, length, ap, ◌∙◌}
use Rattle.jd_vectors.specs.Number.{number}
use Rattle.jd_places.proofs.SingleBits.{moved_one}
use Rattle.jd_places.proofs.masks.one_at.Goals as goal

pub shift_left-requires-clause-first : goal.shift_left-requires-clause-first
shift_left-requires-clause-first g c = c.power-one.ensures.inside _

pub returns-clause-number : goal.returns-clause-number
returns-clause-number g c = λ val s few.
    let m = number val c.args.m.now in
    c.in_ok-r.ensures.number val s
    ∙ ap (λ n. n * 2 ^ m % 2 ^ length c.power-one.result) (c.power-one.ensures.number val)
    ∙ ap (λ n. 2 ^ 0 * 2 ^ m % 2 ^ n) c.power-one.ensures.length
    ∙ moved_one c.args.size m few
