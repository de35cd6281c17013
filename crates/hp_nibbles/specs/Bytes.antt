-- How memory lies in its bytes.
use Rattle.std.specs.Prelude.{◌≡◌, ℕ, ◌+◌, ◌-◌, ◌*◌, ◌/◌, ◌<◌, ◌≤◌, List, slice_index}
use Rattle.hp_model.specs.Lists.{tabulated}
use Rattle.hp_model.specs.State.{register_nibbles}
use Rattle.hp_model.specs.Memory.{Memory, half_of}

-- nibble j of the bytes
abbrev pub nibble_at : List ℕ → ℕ → ℕ
nibble_at bytes j = half_of (slice_index bytes (j / 2)) j

-- the codes of a program's lines, in order, in memory that ends before byte `end`
abbrev pub lines_in : ℕ → List ℕ → ℕ → List ℕ
lines_in end bytes lines = tabulated (λ i. slice_index bytes (end - 1 - i)) lines

-- the memory that so many bytes hold, with so many lines and blocks
abbrev pub memory_in : ℕ → List ℕ → ℕ → ℕ → Memory
memory_in end bytes lines blocks = record {
  bytes = end;
  program = lines_in end bytes lines;
  blocks = blocks;
  nibbles = tabulated (nibble_at bytes) (register_nibbles end blocks);
}

-- the bounds of memory: program bytes that hold no line are zero, and lines are codes
pub record IsOrderly (end : ℕ) (bytes : List ℕ) (lines blocks : ℕ) : Type 0 where
  pub lines_in_blocks : lines ≤ 7 * blocks
  pub lines_bound : lines ≤ end
  pub blocks_bound : 7 * blocks ≤ end
  pub unused_are_zero : (b : ℕ) → end ≤ b + 7 * blocks → b + lines < end → slice_index bytes b ≡ 0
  pub lines_are_codes : (b : ℕ) → end ≤ b + lines → b < end → slice_index bytes b < 225
  pub all_are_bytes : (b : ℕ) → slice_index bytes b < 256
