-- What the bytes of a memory say of it.
use Rattle.std.proofs.Common.{◌≡◌, ℕ, List, length, ap, sym, ◌∙◌}
use Rattle.hp_model.specs.State.{blocks_of}
use Rattle.hp_model.specs.Memory.{Memory}
use Rattle.hp_nibbles.specs.Bytes.{memory_in}
use Rattle.hp_nibbles.proofs.ProgramLines.{length-lines_in}

pub record IsSeen (end line_count block_count : ℕ) (m : Memory) : Type 0 where
  pub bytes : m.bytes ≡ end
  pub lines : length m.program ≡ line_count
  pub blocks : m.blocks ≡ block_count

pub seen : (end : ℕ) (bytes : List ℕ) (lines blocks : ℕ) (m : Memory) → memory_in end bytes lines blocks ≡ m → IsSeen end lines blocks m
seen end bytes lines blocks m is = record {
  bytes = ap (λ (n : Memory). n.bytes) (sym is);
  lines = ap (λ (n : Memory). length n.program) (sym is) ∙ length-lines_in end bytes lines;
  blocks = ap (λ (n : Memory). n.blocks) (sym is);
}

-- the program takes the blocks that its lines need
pub seen_blocks : (end lines blocks : ℕ) (m : Memory) → IsSeen end lines blocks m → m.blocks ≡ blocks_of (length m.program) → blocks ≡ blocks_of lines
seen_blocks end lines blocks m s e = sym s.blocks ∙ e ∙ ap blocks_of s.lines
