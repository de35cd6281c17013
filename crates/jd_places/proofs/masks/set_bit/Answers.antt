use Rattle.std.proofs.Common.{◌<◌, ap, ◌∙◌, bit_or}
use Rattle.jd_circuit.proofs.Values.{solves_before}
use Rattle.jd_vectors.specs.Number.{number}
use Rattle.hp_bits.proofs.SingleBits.{set_is}
use Rattle.jd_places.proofs.masks.set_bit.Goals as goal

pub returns-clause-number : goal.returns-clause-number
returns-clause-number g c = λ val s few.
    let s0 = solves_before _ _ val c.in_ok-r.ensures.grows s in
    let inside : number val c.args.m.now < c.len.result = rw c.len.ensures.len few in
    c.in_ok-r.ensures.number val s ∙ ap (bit_or (number val c.args.y.now)) (c.in_ok-one.ensures.number val s0 inside) ∙ set_is (number val c.args.y.now) (number val c.args.m.now)
