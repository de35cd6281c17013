-- Worked steps on memory, from one where everything is zero.
use Rattle.std.specs.Prelude.{◌≡◌, ℕ, [], ◌∷◌, replicate, drop}
use Rattle.hp_model.specs.State.{standard_bytes, large_bytes, register_count}
use Rattle.hp_model.specs.Memory.{Memory, empty_memory, register_value, with_register, nibble_of, edited}

abbrev pub empty : Memory
empty = empty_memory standard_bytes

abbrev pub written : ℕ → ℕ → ℕ → Memory → Memory
written w r v m = record m { nibbles = with_register w m.nibbles r v }

abbrev pub read : ℕ → ℕ → Memory → ℕ
read w r m = register_value w m.nibbles r

-- FF of 8 bits, and 3F of 6 bits over it
abbrev pub two_sizes : Memory
two_sizes = written 6 0 63 (written 8 0 255 empty)

-- the last nibble, and then a line of code 16
abbrev pub with_a_line : Memory
with_a_line = edited (16 ∷ []) (written 4 405 15 empty)

abbrev pub without_the_line : Memory
without_the_line = edited [] with_a_line

-- the larger memory with one line, and with the last nibble that this leaves to registers
abbrev pub large_with_a_line : Memory
large_with_a_line = written 4 1203 9 (edited (16 ∷ []) (empty_memory large_bytes))

pub record WorkedMemory : Type 0 where
  pub read_shorter : read 6 0 (written 8 0 255 empty) ≡ 63
  pub written_shorter : read 8 0 two_sizes ≡ 63
  pub lower_nibble : nibble_of two_sizes 0 ≡ 15
  pub upper_nibble : nibble_of two_sizes 1 ≡ 3
  pub lower_byte : read 8 0 (written 16 0 4660 empty) ≡ 52
  pub upper_byte : read 8 1 (written 16 0 4660 empty) ≡ 18
  pub first_byte : (nibble_of (written 16 0 4660 empty) 0 ≡ 4) × (nibble_of (written 16 0 4660 empty) 1 ≡ 3)
  pub second_byte : (nibble_of (written 16 0 4660 empty) 2 ≡ 2) × (nibble_of (written 16 0 4660 empty) 3 ≡ 1)
  pub code_in_its_byte : (nibble_of with_a_line 404 ≡ 0) × (nibble_of with_a_line 405 ≡ 1)
  pub rest_of_its_block : (nibble_of with_a_line 392 ≡ 0) × (nibble_of with_a_line 403 ≡ 0)
  pub registers_left : register_count standard_bytes 4 with_a_line.blocks ≡ 392
  pub given_back : drop 392 without_the_line.nibbles ≡ replicate 14 0
  pub registers_back : register_count standard_bytes 4 without_the_line.blocks ≡ 406
  -- memory of 609 bytes
  pub large_registers : (register_count large_bytes 4 0 ≡ 1218) × (register_count large_bytes 16 0 ≡ 304)
  pub large_code : (nibble_of large_with_a_line 1216 ≡ 0) × (nibble_of large_with_a_line 1217 ≡ 1)
  pub large_registers_left : register_count large_bytes 4 large_with_a_line.blocks ≡ 1204
  pub large_last_register : (read 4 1203 large_with_a_line ≡ 9) × (nibble_of large_with_a_line 1204 ≡ 0)
