use Rattle.std.proofs.Common.{refl}
use Rattle.jd_circuit.proofs.Values.{solves_before}
use Rattle.jd_vectors.proofs.Kept.{all_of}
use Rattle.jd_rows.proofs.magnitudes.ranged.Goals as goal

pub returns-clause-fits : goal.returns-clause-fits
returns-clause-fits g c = record {
  pattern = record { size = c.in_ok-pattern.ensures.length; inside = all_of _ _ _ c.in_ok-range.ensures.grows c.in_ok-pattern.ensures.of };
  carry = tt;
  range = c.in_ok-range.ensures.of;
}

pub returns-clause-meaning : goal.returns-clause-meaning
returns-clause-meaning g c = λ val s.
    let s0 = solves_before _ _ val c.in_ok-range.ensures.grows s in
    rw (c.in_ok-pattern.ensures.number val s0, c.in_ok-range.ensures.meaning val s) refl
