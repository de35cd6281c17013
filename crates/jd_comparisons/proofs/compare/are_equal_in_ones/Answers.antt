use Rattle.jd_circuit.proofs.Values.{solves_before}
use Rattle.jd_circuit.proofs.SimpleGates.{value-opposite}
use Rattle.jd_vectors.proofs.Numbers.{number-small}
use Rattle.jd_rows.proofs.Tops.{small}
use Rattle.jd_comparisons.proofs.Comparing.{equal_ones}
use Rattle.jd_comparisons.proofs.compare.are_equal_in_ones.Goals as goal

pub returns-clause-meaning : goal.returns-clause-meaning
returns-clause-meaning g c = λ val s.
    let s1 = solves_before _ _ val c.in_ok-neither.ensures.grows s in
    let s0 = solves_before _ _ val c.in_ok-zero.ensures.grows s1 in
    rw (
      c.opposite-3.ensures,
      value-opposite val c.in_ok-neither.neither,
      c.in_ok-neither.ensures.meaning val s,
      c.opposite.ensures,
      c.opposite-2.ensures,
      value-opposite val c.in_ok-alike.alike,
      value-opposite val c.in_ok-zero.zero,
      c.in_ok-alike.ensures.meaning val s0,
      c.in_ok-zero.ensures.meaning val s1,
    )
    (equal_ones _ _ _ c.requires.some (small val _ _ c.requires.length) (number-small val c.args.x.now))
