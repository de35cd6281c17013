-- A source and a sink in memory, as contracts see them.
use Rattle.std.specs.Prelude.{ℕ, ◌-◌, ◌==◌, nat_lt, Bool, ◌&&◌, ◌||◌, if◌then◌else◌, List, [], ◌++◌, length, take, drop}
use Rattle.std.specs.List.{list_any}
use Rattle.hp_io.specs.Causes.{counted}

-- what is left, the numbers of the reads that fail, and how many reads there were and how many failed
pub record SourceState : Type 0 where
  pub left : List ℕ
  pub fails : List ℕ
  pub calls : ℕ
  pub faults : ℕ

-- what was written, for how many bytes there is room in all, and the rest as for a source
pub record SinkState : Type 0 where
  pub written : List ℕ
  pub room : ℕ
  pub fails : List ℕ
  pub calls : ℕ
  pub faults : ℕ

abbrev pub new_source : List ℕ → List ℕ → SourceState
new_source bytes fails = record { left = bytes; fails = fails; calls = 0; faults = 0 }

abbrev pub new_sink : ℕ → List ℕ → SinkState
new_sink room fails = record { written = []; room = room; fails = fails; calls = 0; faults = 0 }

-- whether a number is in a list
abbrev pub is_listed : List ℕ → ℕ → Bool
is_listed numbers number = list_any (λ n. n == number) numbers

-- the next read fails where its number is listed
abbrev pub read_fails : SourceState → Bool
read_fails s = is_listed s.fails (counted s.calls)

-- a read into a slice of some length: after a failure the same bytes are left
abbrev pub after_read : SourceState → ℕ → SourceState
after_read s room =
    if read_fails s
    then record s { calls = counted s.calls; faults = counted s.faults }
    else record s { calls = counted s.calls; left = drop room s.left }

-- the next write fails where its number is listed, or its piece isn't empty and the room is full
abbrev pub write_fails : SinkState → List ℕ → Bool
write_fails s bytes =
    is_listed s.fails (counted s.calls) || nat_lt 0 (length bytes) && s.room == length s.written

-- a write of a piece: after a failure nothing was appended
abbrev pub after_write : SinkState → List ℕ → SinkState
after_write s bytes =
    if write_fails s bytes
    then record s { calls = counted s.calls; faults = counted s.faults }
    else record s { calls = counted s.calls; written = s.written ++ take (s.room - length s.written) bytes }
