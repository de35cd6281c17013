use Rattle.std.proofs.Common.{◌≡◌, ◌<◌, ◌∙◌, ap, length, arith}
use Rattle.hp_model.specs.Words.{magnitude}
use Rattle.hp_model.specs.WordOperations.{plain, with_bit}
use Rattle.jd_circuit.proofs.Values.{solves_before}
use Rattle.jd_vectors.specs.Number.{number}
use Rattle.jd_operations.proofs.bits.bit_set.Goals as goal

pub returns-clause-fits : goal.returns-clause-fits
returns-clause-fits g c = rw c.plain.ensures (record {
  pattern = record { size = c.in_ok-pattern.ensures.length ∙ c.requires.length; inside = c.in_ok-pattern.ensures.of };
  carry = tt;
  range = tt;
})

pub returns-clause-meaning : goal.returns-clause-meaning
returns-clause-meaning g c = λ val s few.
    let s0 = solves_before _ _ val c.in_ok-pattern.ensures.grows s in
    let m : number val c.in_ok-m.m ≡ magnitude (length c.args.x.now) c.args.mode (number val c.args.x.now) = c.in_ok-m.ensures.number val s0 (omega (arith, few)) in
    let inside : number val c.in_ok-m.m < length c.args.y.now = rw (c.requires.length, m) few in
    rw c.plain.ensures (ap plain (c.in_ok-pattern.ensures.number val s inside ∙ ap (with_bit (number val c.args.y.now)) m))
