use Rattle.std.proofs.Common.{◌≡◌, ◌≤◌, ◌<◌, ap, sym, ◌∙◌, true, length, nat_lt, arith}
use Rattle.std.proofs.lemmas.Bool.Decides.{nat_tests}
use Rattle.hp_model.specs.State.{large_bytes}
use Rattle.hp_model.specs.Memory.{Memory}
use Rattle.hp_edit.proofs.edits.insert.Goals as goal

-- a line that is put in has a number within memory
pub overflow_add-result : goal.overflow_add-result
overflow_add-result c =
    let old = c.args.memory.now in
    let room : nat_lt (length old.program) old.bytes ≡ true = sym c.insert_line.ensures.room ∙ c.if-insert_line.true in
    let same : c.insert_line.new.self.bytes ≡ old.bytes = ap (λ (m : Memory). m.bytes) (rw c.if-insert_line.true at c.insert_line.ensures.memory) in
    let bound : c.insert_line.new.self.bytes ≤ large_bytes = c.insert_line.ensures.bounds.bytes in
    let inside : length old.program < old.bytes = grind (arith, nat_tests, room) in
    let line : c.args.line ≤ length old.program = c.requires.line in
    omega (arith, same, bound, inside, line)
