-- The state of the machine: what decides control, and the data.
use Rattle.std.specs.Prelude.{ℕ, ◌+◌, ◌-◌, ◌*◌, ◌/◌, nat_le, if◌then◌else◌, Bool, false, true, List, [], length, replicate, Option, None, slice_set, get_or}
use Rattle.hp_model.specs.declared.Base.{Base}
use Rattle.hp_model.specs.declared.Base.TheVariants.{Hex, Dec, Oct, Bin}
use Rattle.hp_model.specs.declared.Extent.{Extent}
use Rattle.hp_model.specs.declared.Extent.TheVariants.{Standard, Large}
use Rattle.hp_model.specs.declared.Mode.{Mode}
use Rattle.hp_model.specs.declared.Mode.TheVariants.{Twos}

-- what decides which operation comes next: first the bytes of memory, of which each is two nibbles or holds one line of
-- the program. The program is a list of codes
pub record Control : Type 0 where
  pub bytes : ℕ
  pub size : ℕ
  pub mode : Mode
  pub base : Base
  pub line : ℕ
  pub program : List ℕ
  pub blocks : ℕ
  pub calls : List ℕ
  pub lift : Bool
  pub entry : Option ℕ
  pub window : ℕ

-- what operations work on. The flags and the nibbles are those from number 0 upwards
pub record Data : Type 0 where
  pub x : ℕ
  pub y : ℕ
  pub z : ℕ
  pub t : ℕ
  pub last : ℕ
  pub index : ℕ
  pub flags : List Bool
  pub nibbles : List ℕ

pub record Machine : Type 0 where
  pub control : Control
  pub contents : Data

abbrev pub lines : Control → ℕ
lines c = length c.program

-- ---- the sizes of memory: these four alone have numbers of their own

abbrev pub standard_bytes : ℕ
standard_bytes = 203

abbrev pub large_bytes : ℕ
large_bytes = 609

abbrev pub memory_bytes : Extent → ℕ
memory_bytes Standard = standard_bytes
memory_bytes Large = large_bytes

-- the bits of the index register that name any register of one nibble
abbrev pub index_bits : ℕ → ℕ
index_bits bytes = if nat_le bytes standard_bytes then 9 else 11

-- ---- registers

-- how many nibbles a register takes, how many nibbles belong to registers, and how many registers there are. The
-- program has its bytes in blocks of seven
abbrev pub width : ℕ → ℕ
width w = (w + 3) / 4

abbrev pub register_nibbles : ℕ → ℕ → ℕ
register_nibbles bytes blocks = 2 * bytes - 14 * blocks

abbrev pub register_count : ℕ → ℕ → ℕ → ℕ
register_count bytes w blocks = register_nibbles bytes blocks / width w

-- the registers that there are now
abbrev pub registers : Control → ℕ
registers c = register_count c.bytes c.size c.blocks

-- the blocks of seven bytes that a program of so many lines takes
abbrev pub blocks_of : ℕ → ℕ
blocks_of n = (n + 6) / 7

abbrev pub flag : Data → ℕ → Bool
flag d n = get_or d.flags n false

abbrev pub carry : Data → Bool
carry d = flag d 4

abbrev pub with_flag : ℕ → Bool → Data → Data
with_flag n b d = record d { flags = slice_set d.flags n b }

-- the base as a number
abbrev pub radix : Base → ℕ
radix Hex = 16
radix Dec = 10
radix Oct = 8
radix Bin = 2

-- the state after a full reset, with so many bytes of memory
abbrev pub reset : ℕ → Machine
reset bytes = record {
  control = record {
    bytes = bytes;
    size = 16;
    mode = Twos;
    base = Hex;
    line = 0;
    program = [];
    blocks = 0;
    calls = [];
    lift = true;
    entry = None;
    window = 0;
  };
  contents = record {
    x = 0;
    y = 0;
    z = 0;
    t = 0;
    last = 0;
    index = 0;
    flags = replicate 6 false;
    nibbles = replicate (register_nibbles bytes 0) 0;
  };
}
