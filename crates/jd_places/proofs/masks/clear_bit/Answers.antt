use Rattle.std.proofs.Common.{◌^◌, ◌<◌, length, ap, ◌∙◌}
use Rattle.jd_circuit.proofs.Values.{solves_before}
use Rattle.jd_vectors.specs.Number.{number}
use Rattle.jd_vectors.proofs.Numbers.{number-small}
use Rattle.jd_places.proofs.SingleBits.{cleared_from}
use Rattle.jd_places.proofs.masks.clear_bit.Goals as goal

pub join_lits-requires-clause-second : goal.join_lits-requires-clause-second
join_lits-requires-clause-second g c = c.not_lits-others.ensures.inside _ c.in_ok-one.ensures.of

pub returns-clause-number : goal.returns-clause-number
returns-clause-number g c = λ val s few.
    let s0 = solves_before _ _ val c.in_ok-r.ensures.grows s in
    let inside : number val c.args.m.now < c.len.result = rw c.len.ensures.len few in
    cleared_from (length c.args.y.now) (number val c.args.y.now) (number val c.args.m.now) (number val c.not_lits-others.result) _ (number val c.in_ok-one.one) few (number-small val c.args.y.now)
    (c.in_ok-one.ensures.number val s0 inside) (c.not_lits-others.ensures.number val ∙ ap (λ n. 2 ^ n) (c.in_ok-one.ensures.length ∙ c.len.ensures.len)) (c.in_ok-r.ensures.number val s)
