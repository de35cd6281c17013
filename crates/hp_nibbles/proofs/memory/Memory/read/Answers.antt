use Rattle.std.proofs.Common.{◌+◌, ◌*◌, ◌≤◌}
use Rattle.std.proofs.lemmas.Nat.{and_mask}
use Rattle.hp_model.specs.State.{width, memory_bytes, register_nibbles}
use Rattle.hp_nibbles.proofs.Seen.{seen}
use Rattle.hp_nibbles.proofs.Sums.{register_fits, register_is}
use Rattle.hp_nibbles.proofs.memory.Memory.read.Goals as goal

-- the register ends within the register nibbles
fits : (c : goal.After-mask) → width c.args.size.bits * c.args.r + width c.args.size.bits ≤ register_nibbles (memory_bytes c.self.inside.extent) c.self.inside.blocks
fits c =
    let s = seen _ c.self.inside.bytes c.self.inside.lines c.self.inside.blocks c.args.self.now c.self.view_is in
    rw (← s.bytes, ← s.blocks) (register_fits _ _ _ c.requires)

pub returns-clause-value : goal.returns-clause-value
returns-clause-value c =
    rw (← c.self.view_is) (rw (c.mask.ensures, and_mask c.read_nibbles-digits.result c.args.size.bits)
    (register_is c.self.inside.bytes c.args.size.bits (register_nibbles (memory_bytes c.self.inside.extent) c.self.inside.blocks) c.args.r c.read_nibbles-digits.result
    (rw c.nibbles-width.ensures at c.read_nibbles-digits.ensures) (fits c)))
