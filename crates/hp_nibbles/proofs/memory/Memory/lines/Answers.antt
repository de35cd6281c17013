use Rattle.hp_nibbles.proofs.Bounded.{few_bytes, is_bounded}
use Rattle.std.proofs.Common.{sym}
use Rattle.hp_nibbles.proofs.ProgramLines.{length-lines_in}
use Rattle.hp_nibbles.proofs.memory.Memory.lines.Goals as goal

pub returns-clause-value : goal.returns-clause-value
returns-clause-value c = rw (← c.self.view_is) (sym (length-lines_in _ c.self.inside.bytes c.self.inside.lines))

pub returns-clause-bounds : goal.returns-clause-bounds
returns-clause-bounds c = rw (← c.self.view_is) (is_bounded _ (few_bytes c.self.inside.extent) _ _ _ c.self.invariant)
