use Rattle.std.proofs.Common.{◌∙◌}
use Rattle.jd_vectors.proofs.Numbers.{number-small}
use Rattle.jd_rows.proofs.Tops.{small}
use Rattle.jd_comparisons.proofs.Comparing.{equal_twos}
use Rattle.jd_comparisons.proofs.compare.are_equal.Goals as goal

pub returns-in_ok-l-in-Twos-clause-meaning : goal.returns-in_ok-l-in-Twos-clause-meaning
returns-in_ok-l-in-Twos-clause-meaning g c = λ val s.
    rw c.in-Twos.is (c.in_ok-l-in-Twos.ensures.meaning val s ∙ equal_twos _ _ _ c.requires.some (small val _ _ c.requires.length) (number-small val c.args.x.now))
