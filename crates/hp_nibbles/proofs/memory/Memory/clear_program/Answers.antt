use Rattle.std.proofs.Common.{◌≡◌, length, sym, subst}
use Rattle.hp_model.specs.State.{register_nibbles}
use Rattle.hp_nibbles.specs.Bounds.{IsBounded}
use Rattle.hp_nibbles.specs.Passing.{PassesNibbles}
use Rattle.hp_nibbles.proofs.Bounded.{few_bytes, is_bounded}
use Rattle.hp_nibbles.proofs.Passes.{edit_passes}
use Rattle.hp_nibbles.proofs.ProgramLines.{whole_blocks}
use Rattle.hp_nibbles.proofs.Cleared.{clear_memory}
use Rattle.hp_nibbles.proofs.memory.Memory.clear_program.Goals as goal

pub returns-clause-memory : goal.returns-clause-memory
returns-clause-memory c = rw (← c.self.view_is) (clear_memory _ (whole_blocks c.self.inside.extent) _ _ _ _ c.self.invariant (rw (c.first_byte.ensures, c.end_of.ensures.value) at c.clear_bytes.ensures))

pub returns-clause-nibbles : goal.returns-clause-nibbles
returns-clause-nibbles c =
    let sizes : length c.args.self.now.nibbles ≡ register_nibbles c.args.self.now.bytes c.args.self.now.blocks = (subst IsBounded c.self.view_is (is_bounded _ (few_bytes c.self.inside.extent) _ _ _ c.self.invariant)).nibbles in
    subst (PassesNibbles c.args.self.now) (sym (returns-clause-memory c)) (edit_passes _ c.args.self.now sizes)
