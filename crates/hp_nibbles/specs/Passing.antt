-- What an edit of the program does to nibbles: those of registers before and after keep their value, and those that
-- pass between registers and program are zero, but for those of program lines.
use Rattle.std.specs.Prelude.{◌≡◌, ℕ, ◌+◌, ◌/◌, ◌<◌, ◌≤◌, length}
use Rattle.hp_model.specs.State.{register_nibbles}
use Rattle.hp_model.specs.Memory.{Memory, nibble_of}

pub record PassesNibbles (old new : Memory) : Type 0 where
  pub kept : (j : ℕ) → j < register_nibbles old.bytes old.blocks → j < register_nibbles new.bytes new.blocks → nibble_of new j ≡ nibble_of old j
  pub given_back : (j : ℕ) → register_nibbles old.bytes old.blocks ≤ j → j < register_nibbles new.bytes new.blocks → nibble_of new j ≡ 0
  pub taken : (j : ℕ) → j < register_nibbles old.bytes old.blocks → register_nibbles new.bytes new.blocks ≤ j → j / 2 + length new.program < new.bytes → nibble_of new j ≡ 0
