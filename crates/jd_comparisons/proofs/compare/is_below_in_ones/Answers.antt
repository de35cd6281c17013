use Rattle.jd_circuit.proofs.Values.{solves_before}
use Rattle.jd_circuit.proofs.SimpleGates.{value-opposite}
use Rattle.jd_vectors.proofs.Numbers.{number-small}
use Rattle.jd_rows.proofs.Tops.{small}
use Rattle.jd_comparisons.proofs.Comparing.{below_ones}
use Rattle.jd_comparisons.proofs.compare.is_below_in_ones.Goals as goal

pub returns-clause-meaning : goal.returns-clause-meaning
returns-clause-meaning g c = λ val s.
    let s1 = solves_before _ _ val c.in_ok-l.ensures.grows s in
    let s0 = solves_before _ _ val c.in_ok-zero.ensures.grows s1 in
    rw (
      c.in_ok-l.ensures.meaning val s,
      c.opposite.ensures,
      value-opposite val c.in_ok-zero.zero,
      c.in_ok-lower.ensures.meaning val s0,
      c.in_ok-zero.ensures.meaning val s1,
    )
    (below_ones _ _ _ c.requires.some (small val _ _ c.requires.length) (number-small val c.args.x.now))
