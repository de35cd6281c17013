-- A register written into the bytes.
use Rattle.std.specs.Prelude.{ℕ, slice_index, ◌+◌, ◌*◌, ◌-◌, ◌/◌, ◌%◌, ◌^◌, List, ◌&&◌, nat_lt, nat_le, if◌then◌else◌}
use Rattle.hp_nibbles.specs.Bytes.{nibble_at}

-- nibble i after the lowest `count` digits of v are written from nibble `first` on
abbrev pub written_at : List ℕ → ℕ → ℕ → ℕ → ℕ → ℕ
written_at bytes first count v i =
    if nat_le first i && nat_lt i (first + count) then v / 16 ^ (i - first) % 16 else nibble_at bytes i

-- byte b of nibbles that lie two a byte
abbrev pub paired_byte : List ℕ → ℕ → ℕ
paired_byte nibbles b = slice_index nibbles (2 * b) + 16 * slice_index nibbles (2 * b + 1)
