use Rattle.std.proofs.Common.{◌≡◌, ◌≤◌, length, sym, subst, arith}
use Rattle.hp_model.specs.State.{register_nibbles, blocks_of}
use Rattle.hp_nibbles.specs.Bounds.{IsBounded}
use Rattle.hp_nibbles.specs.Passing.{PassesNibbles}
use Rattle.hp_nibbles.proofs.ProgramLines.{whole_blocks}
use Rattle.hp_nibbles.proofs.Seen.{seen, seen_blocks}
use Rattle.hp_nibbles.proofs.Bounded.{few_bytes, is_bounded}
use Rattle.hp_nibbles.proofs.Passes.{edit_passes}
use Rattle.hp_nibbles.proofs.Deleted.{delete_memory, delete_orderly}
use Rattle.hp_nibbles.proofs.memory.Memory.delete_line.Goals as goal

pub take_line-requires-clause-line : goal.take_line-requires-clause-line
take_line-requires-clause-line c = omega (arith, c.requires.to_lines, seen _ c.self.inside.bytes c.self.inside.lines c.self.inside.blocks c.args.self.now c.self.view_is)

inside : (c : goal.After-self-2-1) → c.args.i ≤ c.self.inside.lines
inside c = omega (arith, c.requires.to_lines, seen _ c.self.inside.bytes c.self.inside.lines c.self.inside.blocks c.args.self.now c.self.view_is)

fit : (c : goal.After-self-2-1) → c.self.inside.blocks ≡ blocks_of c.self.inside.lines
fit c = seen_blocks _ _ _ _ (seen _ c.self.inside.bytes c.self.inside.lines c.self.inside.blocks c.args.self.now c.self.view_is) c.requires.blocks

pub invariant_of-self : goal.invariant_of-self
invariant_of-self c =
    delete_orderly _ (whole_blocks c.self.inside.extent) _ _ _ _ _ _ c.self.invariant (fit c) c.requires.from_one (inside c) c.blocks_for-self-inside.ensures c.take_line.ensures

pub returns-clause-memory : goal.returns-clause-memory
returns-clause-memory c =
    rw (← c.self.view_is) (delete_memory _ (whole_blocks c.self.inside.extent) _ _ _ _ _ _ c.self.invariant (fit c) c.requires.from_one (inside c) c.blocks_for-self-inside.ensures c.take_line.ensures)

pub returns-clause-nibbles : goal.returns-clause-nibbles
returns-clause-nibbles c =
    let sizes : length c.args.self.now.nibbles ≡ register_nibbles c.args.self.now.bytes c.args.self.now.blocks =
    (subst IsBounded c.self.view_is (is_bounded _ (few_bytes c.self.inside.extent) _ _ _ c.self.invariant)).nibbles in
    subst (PassesNibbles c.args.self.now) (sym (returns-clause-memory c)) (edit_passes _ c.args.self.now sizes)
