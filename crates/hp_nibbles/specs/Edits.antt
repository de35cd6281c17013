-- What an edit of the program does to the bytes of memory that ends before byte `end`.
use Rattle.std.specs.Prelude.{ℕ, ◌+◌, ◌-◌, ◌==◌, nat_lt, List, length, slice_index, if◌then◌else◌}

-- byte b after a line is inserted, and after line i is deleted, where there were so many lines
abbrev pub byte_inserted : ℕ → List ℕ → ℕ → ℕ → ℕ → ℕ → ℕ
byte_inserted end bytes lines after code b =
    if nat_lt b (end - 1 - lines) then slice_index bytes b else
    if nat_lt b (end - 1 - after) then slice_index bytes (b + 1) else
    if b == end - 1 - after then code else slice_index bytes b

abbrev pub byte_deleted : ℕ → List ℕ → ℕ → ℕ → ℕ → ℕ
byte_deleted end bytes lines i b =
    if nat_lt b (end - lines) then slice_index bytes b else
    if b == end - lines then 0 else
    if nat_lt (end - i) b then slice_index bytes b else slice_index bytes (b - 1)

-- byte b after some were cleared
abbrev pub byte_cleared : List ℕ → ℕ → ℕ → ℕ → ℕ
byte_cleared bytes from end b =
    if nat_lt b from then slice_index bytes b else
    if nat_lt b end then 0 else slice_index bytes b

-- byte b after the first lines of a program were written, and after all were
abbrev pub byte_with_first_lines : ℕ → ℕ → List ℕ → List ℕ → ℕ → ℕ
byte_with_first_lines end lines bytes codes b =
    if nat_lt b (end - lines) then slice_index bytes b else
    if nat_lt b end then slice_index codes (end - 1 - b) else slice_index bytes b

abbrev pub byte_with_lines : ℕ → List ℕ → List ℕ → ℕ → ℕ
byte_with_lines end bytes codes b = byte_with_first_lines end (length codes) bytes codes b
