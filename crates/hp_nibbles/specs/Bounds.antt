-- What holds of every memory.
use Rattle.std.specs.Prelude.{◌≡◌, ℕ, ◌*◌, ◌<◌, ◌≤◌, length, slice_index}
use Rattle.hp_model.specs.State.{large_bytes, register_nibbles}
use Rattle.hp_model.specs.Memory.{Memory}

pub record IsBounded (m : Memory) : Type 0 where
  pub bytes : m.bytes ≤ large_bytes
  pub lines : length m.program ≤ m.bytes
  pub lines_in_blocks : length m.program ≤ 7 * m.blocks
  pub blocks : 7 * m.blocks ≤ m.bytes
  pub codes : (i : ℕ) → slice_index m.program i < 225
  pub nibbles : length m.nibbles ≡ register_nibbles m.bytes m.blocks
  pub digits : (j : ℕ) → slice_index m.nibbles j < 16
