use Rattle.std.proofs.Common.{◌<◌, ◌*◌, arith}
use Rattle.hp_model.specs.State.{memory_bytes}
use Rattle.std.proofs.lemmas.Bool.Decides.{nat_tests}
use Rattle.hp_nibbles.proofs.Seen.{seen}
use Rattle.hp_nibbles.proofs.Places.{nibble_in}
use Rattle.hp_nibbles.proofs.memory.Memory.nibble.Goals as goal

pub returns-then-j-eq0-clause-value : goal.returns-then-j-eq0-clause-value
returns-then-j-eq0-clause-value c =
    let inside : c.args.j < 2 * memory_bytes c.self.inside.extent = omega (arith, c.requires, seen _ c.self.inside.bytes c.self.inside.lines c.self.inside.blocks c.args.self.now c.self.view_is) in
    let e = nibble_in _ c.self.inside.bytes c.self.inside.lines c.self.inside.blocks c.args.j c.self.invariant inside in
    rw (← c.self.view_is) (grind (arith, nat_tests, e))

pub returns-else-j-eq0-clause-value : goal.returns-else-j-eq0-clause-value
returns-else-j-eq0-clause-value c =
    let inside : c.args.j < 2 * memory_bytes c.self.inside.extent = omega (arith, c.requires, seen _ c.self.inside.bytes c.self.inside.lines c.self.inside.blocks c.args.self.now c.self.view_is) in
    let e = nibble_in _ c.self.inside.bytes c.self.inside.lines c.self.inside.blocks c.args.j c.self.invariant inside in
    rw (← c.self.view_is) (grind (arith, nat_tests, e))
