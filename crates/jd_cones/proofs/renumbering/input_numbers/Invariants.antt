use Rattle.jd_cones.specs.Renaming.{AreOwn}
use Rattle.jd_cones.proofs.renumbering.input_numbers.Given as goal

abbrev pub invariant-loop-before : goal.invariant-loop-before
invariant-loop-before l = AreOwn l.before l.numbers.items
