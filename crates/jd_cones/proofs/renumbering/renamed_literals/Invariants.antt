use Rattle.std.proofs.Common.{◌≡◌, map, take}
use Rattle.jd_cones.specs.Renaming.{renamed}
use Rattle.jd_cones.proofs.renumbering.renamed_literals.Given as goal

abbrev pub invariant-loop-l : goal.invariant-loop-l
invariant-loop-l l = l.list.items ≡ map (renamed l.numbers) (take l.l-index l.literals)
