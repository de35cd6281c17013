-- Memory: registers as digits to the base 16 in a list of nibbles, and the program below the end.
use Rattle.std.specs.Prelude.{ℕ, zero, suc, ◌+◌, ◌-◌, ◌*◌, ◌/◌, ◌%◌, ◌^◌, List, [], ◌++◌, length, take, replicate, slice_index, ◌==◌, nat_lt, nat_le, Bool, ◌&&◌, if◌then◌else◌}
use Rattle.hp_model.specs.Lists.{tabulated}
use Rattle.hp_model.specs.State.{width, register_nibbles, blocks_of}

-- the sum of f j times 16 to the j, over j below k
abbrev pub nibble_sum : (ℕ → ℕ) → ℕ → ℕ
nibble_sum f zero = 0
nibble_sum f (suc k) = nibble_sum f k + f k * 16 ^ k

-- register r of w bits
abbrev pub register_value : ℕ → List ℕ → ℕ → ℕ
register_value w nibbles r = nibble_sum (λ j. slice_index nibbles (width w * r + j)) (width w) % 2 ^ w

-- whether nibble j belongs to register r
abbrev pub is_of_register : ℕ → ℕ → ℕ → Bool
is_of_register w r j = nat_le (width w * r) j && nat_lt j (width w * r + width w)

-- nibble j after v is written to register r
abbrev pub nibble_written : ℕ → List ℕ → ℕ → ℕ → ℕ → ℕ
nibble_written w nibbles r v j =
    if is_of_register w r j then v / 16 ^ (j - width w * r) % 16 else slice_index nibbles j

abbrev pub with_register : ℕ → List ℕ → ℕ → ℕ → List ℕ
with_register w nibbles r v = tabulated (nibble_written w nibbles r v) (length nibbles)

-- memory as a whole: its bytes, the program's codes, the blocks that the program has, and the register nibbles
pub record Memory : Type 0 where
  pub bytes : ℕ
  pub program : List ℕ
  pub blocks : ℕ
  pub nibbles : List ℕ

-- memory where everything is zero
abbrev pub empty_memory : ℕ → Memory
empty_memory bytes = record { bytes = bytes; program = []; blocks = 0; nibbles = replicate (register_nibbles bytes 0) 0 }

-- byte b of the program. Its lines begin at the last byte and grow downwards, and a byte with no line is zero
abbrev pub program_byte : Memory → ℕ → ℕ
program_byte m b = slice_index m.program (m.bytes - 1 - b)

-- the lower half of a byte at an even place, and else the upper one
abbrev pub half_of : ℕ → ℕ → ℕ
half_of byte place = if place % 2 == 0 then byte % 16 else byte / 16

-- nibble j of the whole memory
abbrev pub nibble_of : Memory → ℕ → ℕ
nibble_of m j =
    if nat_lt j (register_nibbles m.bytes m.blocks) then slice_index m.nibbles j else half_of (program_byte m (j / 2)) j

-- the register nibbles after the program takes another number of blocks: those that stay keep their value, and
-- those that come back are zero
abbrev pub resized : ℕ → ℕ → List ℕ → List ℕ
resized bytes blocks nibbles =
    take (register_nibbles bytes blocks) nibbles ++ replicate (register_nibbles bytes blocks - length nibbles) 0

-- memory with another program, whose blocks are as many as it needs
abbrev pub edited : List ℕ → Memory → Memory
edited program m = record {
  bytes = m.bytes;
  program = program;
  blocks = blocks_of (length program);
  nibbles = resized m.bytes (blocks_of (length program)) m.nibbles;
}
