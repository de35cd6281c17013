use Rattle.std.proofs.Common.{◌<◌, ◌==◌, ap, ◌∙◌, not, bit_and}
use Rattle.jd_circuit.specs.Meaning.{lit_value}
use Rattle.jd_circuit.proofs.Values.{solves_before}
use Rattle.jd_circuit.proofs.SimpleGates.{value-opposite}
use Rattle.jd_vectors.specs.Number.{number}
use Rattle.jd_places.proofs.SingleBits.{tested}
use Rattle.jd_places.proofs.masks.bit_is_set.Goals as goal

pub returns-clause-meaning : goal.returns-clause-meaning
returns-clause-meaning g c = λ val s few.
    let s1 = solves_before _ _ val c.in_ok-none.ensures.grows s in
    let s0 = solves_before _ _ val c.in_ok-part.ensures.grows s1 in
    let inside : number val c.args.m.now < c.len.result = rw c.len.ensures.len few in
    let y = number val c.args.y.now in
    ap (lit_value val) c.opposite.ensures ∙ value-opposite val c.in_ok-none.none ∙ ap not (c.in_ok-none.ensures.meaning val s)
    ∙ ap (λ n. not (n == 0)) (c.in_ok-part.ensures.number val s1 ∙ ap (λ k. bit_and k y) (c.in_ok-one.ensures.number val s0 inside)) ∙ tested y (number val c.args.m.now)
