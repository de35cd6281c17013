use Rattle.hp_nibbles.proofs.ProgramLines.{whole_blocks}
use Rattle.hp_nibbles.proofs.Cleared.{no_registers, orderly_without_registers}
use Rattle.hp_nibbles.proofs.memory.Memory.clear_registers.Goals as goal

pub invariant_of-self : goal.invariant_of-self
invariant_of-self c = orderly_without_registers _ (whole_blocks c.self.inside.extent) _ _ _ _ c.self.invariant (rw c.first_byte.ensures at c.clear_bytes.ensures)

pub returns : goal.returns
returns c = rw (← c.self.view_is) (no_registers _ (whole_blocks c.self.inside.extent) _ _ _ _ c.self.invariant (rw c.first_byte.ensures at c.clear_bytes.ensures))
