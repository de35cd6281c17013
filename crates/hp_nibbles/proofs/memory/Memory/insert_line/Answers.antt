use Rattle.std.proofs.Common.{◌≡◌, ◌<◌, ◌≤◌, length, sym, subst, arith}
use Rattle.std.proofs.lemmas.Bool.Decides.{nat_tests}
use Rattle.hp_model.specs.State.{memory_bytes, register_nibbles, blocks_of}
use Rattle.hp_nibbles.specs.Bounds.{IsBounded}
use Rattle.hp_nibbles.specs.Passing.{PassesNibbles}
use Rattle.hp_nibbles.proofs.ProgramLines.{whole_blocks}
use Rattle.hp_nibbles.proofs.Seen.{seen, seen_blocks}
use Rattle.hp_nibbles.proofs.Bounded.{few_bytes, is_bounded}
use Rattle.hp_nibbles.proofs.Passes.{edit_passes}
use Rattle.hp_nibbles.proofs.Inserted.{insert_memory, insert_orderly}
use Rattle.hp_nibbles.proofs.memory.Memory.insert_line.Goals as goal

pub put_line-requires-clause-after : goal.put_line-requires-clause-after
put_line-requires-clause-after c = omega (arith, c.requires.after, seen _ c.self.inside.bytes c.self.inside.lines c.self.inside.blocks c.args.self.now c.self.view_is)

-- where a line is put in
room : (c : goal.After-self-2-1) → c.self.inside.lines < memory_bytes c.self.inside.extent
room c = omega (arith, c.self.invariant.lines_bound, c.if-self-bytes.false, c.bytes.ensures.value)

inside : (c : goal.After-self-2-1) → c.args.after ≤ c.self.inside.lines
inside c = omega (arith, c.requires.after, seen _ c.self.inside.bytes c.self.inside.lines c.self.inside.blocks c.args.self.now c.self.view_is)

fit : (c : goal.After-self-2-1) → c.self.inside.blocks ≡ blocks_of c.self.inside.lines
fit c = seen_blocks _ _ _ _ (seen _ c.self.inside.bytes c.self.inside.lines c.self.inside.blocks c.args.self.now c.self.view_is) c.requires.blocks

pub invariant_of-self : goal.invariant_of-self
invariant_of-self c =
    insert_orderly _ (whole_blocks c.self.inside.extent) _ _ _ _ _ _ _ _ _ _ c.self.invariant (fit c) (room c) (inside c) c.requires.code c.blocks_for-blocks.ensures c.first_byte.ensures c.first_byte-2.ensures c.clear_bytes.ensures c.put_line.ensures

pub returns-clause-room : goal.returns-clause-room
returns-clause-room c =
    let s = seen _ c.self.inside.bytes c.self.inside.lines c.self.inside.blocks c.args.self.now c.self.view_is in
    rw (s.lines, s.bytes) (grind (arith, nat_tests, room c))

pub returns-clause-memory : goal.returns-clause-memory
returns-clause-memory c =
    rw (← c.self.view_is) (insert_memory _ (whole_blocks c.self.inside.extent) _ _ _ _ _ _ _ _ _ _ c.self.invariant (fit c) (room c) (inside c) c.requires.code c.blocks_for-blocks.ensures c.first_byte.ensures c.first_byte-2.ensures c.clear_bytes.ensures c.put_line.ensures)

pub clear_bytes-requires-clause-order : goal.clear_bytes-requires-clause-order
clear_bytes-requires-clause-order c = omega (arith, seen_blocks _ _ _ _ (seen _ c.self.inside.bytes c.self.inside.lines c.self.inside.blocks c.args.self.now c.self.view_is) c.requires.blocks)

pub returns-clause-nibbles : goal.returns-clause-nibbles
returns-clause-nibbles c =
    let sizes : length c.args.self.now.nibbles ≡ register_nibbles c.args.self.now.bytes c.args.self.now.blocks =
    (subst IsBounded c.self.view_is (is_bounded _ (few_bytes c.self.inside.extent) _ _ _ c.self.invariant)).nibbles in
    subst (PassesNibbles c.args.self.now) (sym (returns-clause-memory c)) (edit_passes _ c.args.self.now sizes)

pub returns-clause-bounds : goal.returns-clause-bounds
returns-clause-bounds c = is_bounded _ (few_bytes c.self.inside.extent) _ _ _ (invariant_of-self c)

pub returns-then-self-bytes-clause-bounds : goal.returns-then-self-bytes-clause-bounds
returns-then-self-bytes-clause-bounds c = rw (← c.self.view_is) (is_bounded _ (few_bytes c.self.inside.extent) _ _ _ c.self.invariant)
