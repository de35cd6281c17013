use Rattle.std.proofs.Common.{◌≡◌, ◌<◌, ◌∙◌, ap, arith, length}
use Rattle.hp_model.specs.Words.{bit, magnitude}
use Rattle.jd_circuit.proofs.Values.{solves_before}
use Rattle.jd_vectors.specs.Number.{number}
use Rattle.jd_questions.proofs.literals.bit_of_y.Goals as goal

pub returns-clause-meaning : goal.returns-clause-meaning
returns-clause-meaning g c = λ val s few.
    let s0 = solves_before _ _ val c.in_ok-l.ensures.grows s in
    let m : number val c.in_ok-places.places ≡ magnitude (length c.args.x.now) c.args.mode (number val c.args.x.now) = c.in_ok-places.ensures.number val s0 (omega (arith, few)) in
    let inside : number val c.in_ok-places.places < length c.args.y.now = rw (c.requires.length, m) few in
    c.in_ok-l.ensures.meaning val s inside ∙ ap (bit (number val c.args.y.now)) m
