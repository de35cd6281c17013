use Rattle.std.proofs.Common.{◌+◌, ◌*◌, ◌≤◌, refl}
use Rattle.hp_model.specs.State.{memory_bytes, register_nibbles}
use Rattle.hp_nibbles.proofs.Seen.{seen}
use Rattle.hp_nibbles.proofs.Sums.{register_fits}
use Rattle.hp_nibbles.proofs.Rewritten.{still_orderly, same_program, written_register}
use Rattle.hp_nibbles.proofs.memory.Memory.write.Goals as goal

-- the register ends within the register nibbles
fits : (c : goal.After-write_nibbles) → c.nibbles-width.result * c.args.r + c.nibbles-width.result ≤ register_nibbles (memory_bytes c.self.inside.extent) c.self.inside.blocks
fits c =
    let s = seen _ c.self.inside.bytes c.self.inside.lines c.self.inside.blocks c.args.self.now c.self.view_is in
    rw (c.nibbles-width.ensures, ← s.bytes, ← s.blocks) (register_fits _ _ _ c.requires.register)

pub invariant_of-self : goal.invariant_of-self
invariant_of-self c = still_orderly _ _ _ _ _ _ _ _ c.write_nibbles.ensures (fits c) c.self.invariant

pub returns : goal.returns
returns c =
    let program = same_program _ _ _ _ _ _ _ _ c.write_nibbles.ensures (fits c) c.self.invariant in
    let nibbles = written_register c.self.inside.bytes c.write_nibbles.new.bytes (register_nibbles (memory_bytes c.self.inside.extent) c.self.inside.blocks) c.args.size.bits c.args.r c.args.v (rw c.nibbles-width.ensures at c.write_nibbles.ensures) in
    rw (← c.self.view_is) (rw (program, nibbles) refl)
