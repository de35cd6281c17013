use Rattle.hp_model.specs.State.{memory_bytes}
use Rattle.hp_nibbles.proofs.ProgramLines.{whole_blocks}
use Rattle.hp_nibbles.proofs.Made.{orderly_zeros, memory_of_zeros}
use Rattle.hp_nibbles.proofs.memory.Memory.new.Goals as goal

pub invariant_of-result : goal.invariant_of-result
invariant_of-result c = orderly_zeros (memory_bytes c.args.extent) (whole_blocks c.args.extent) _ c.zeros.ensures

pub returns : goal.returns
returns c = memory_of_zeros (memory_bytes c.args.extent) (whole_blocks c.args.extent) _ c.zeros.ensures
