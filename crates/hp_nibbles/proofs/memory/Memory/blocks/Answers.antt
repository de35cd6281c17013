use Rattle.hp_nibbles.proofs.Bounded.{few_bytes, is_bounded}
use Rattle.hp_nibbles.proofs.memory.Memory.blocks.Goals as goal

pub returns-clause-bounds : goal.returns-clause-bounds
returns-clause-bounds c = rw (← c.self.view_is) (is_bounded _ (few_bytes c.self.inside.extent) _ _ _ c.self.invariant)
