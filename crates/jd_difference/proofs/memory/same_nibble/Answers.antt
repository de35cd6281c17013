use Rattle.std.proofs.Common.{◌*◌, sym, subst}
use Rattle.jd_circuit.specs.Net.{variables}
use Rattle.jd_vectors.specs.Number.{Inside}
use Rattle.jd_vectors.proofs.Kept.{Inside-drop, Inside-take}
use Rattle.jd_difference.proofs.memory.same_nibble.Goals as goal

pub same-requires-clause-first : goal.same-requires-clause-first
same-requires-clause-first g c =
    let n = variables c.args.c.now in
    subst (Inside n) (sym c.read-one.ensures) (Inside-take n _ _ (Inside-drop n (4 * c.args.place) c.args.first.now c.requires.first))

pub same-requires-clause-second : goal.same-requires-clause-second
same-requires-clause-second g c =
    let n = variables c.args.c.now in
    subst (Inside n) (sym c.read-other.ensures) (Inside-take n _ _ (Inside-drop n (4 * c.args.place) c.args.second.now c.requires.second))
