use Rattle.jd_cones.specs.Renaming.{IsRenaming}
use Rattle.jd_cones.proofs.renumbering.renumbered.Given as goal

abbrev pub invariant-loop-place : goal.invariant-loop-place
invariant-loop-place l = IsRenaming l.inputs l.gates l.marks l.place l.renumbering.numbers.items l.renumbering.gates.items
