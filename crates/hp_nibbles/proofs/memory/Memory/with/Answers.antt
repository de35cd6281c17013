use Rattle.std.proofs.Common.{ℕ, ◌<◌, length, get_or}
use Rattle.std.proofs.lemmas.List.Elements.{All-get_or}
use Rattle.hp_nibbles.proofs.Made.{orderly_made, memory_made}
use Rattle.hp_nibbles.proofs.memory.Memory.with.Goals as goal

codes_at : (c : goal.After-put_lines) → (i : ℕ) → i < length c.args.codes.now → get_or c.args.codes.now i 0 < 225
codes_at c i inside = All-get_or (λ code. code < 225) c.args.codes.now i 0 inside c.requires.codes

digits_at : (c : goal.After-put_lines) → (j : ℕ) → j < length c.args.nibbles.now → get_or c.args.nibbles.now j 0 < 16
digits_at c j inside = All-get_or (λ nibble. nibble < 16) c.args.nibbles.now j 0 inside c.requires.digits

pub invariant_of-result : goal.invariant_of-result
invariant_of-result c =
    orderly_made _ _ _ _ _ _ _ c.zeros-bytes.ensures c.requires.lines_in_blocks c.requires.blocks (codes_at c) c.requires.nibbles (digits_at c) c.put_digits.ensures c.put_lines.ensures

pub returns : goal.returns
returns c =
    memory_made _ _ _ _ _ _ _ c.zeros-bytes.ensures c.requires.lines_in_blocks c.requires.blocks (codes_at c) c.requires.nibbles (digits_at c) c.put_digits.ensures c.put_lines.ensures
