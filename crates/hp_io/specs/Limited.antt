-- What a limited read takes of the bytes that were left.
use Rattle.std.specs.Prelude.{◌≡◌, ℕ, ◌≤◌, List, length, ⊤, nat_lt, if◌then◌else◌}
use Rattle.std.specs.declared.option.Option.{Option}
use Rattle.std.specs.Io.KnownBytes.{Consumes, IsAtEnd}
use Rattle.hp_io.specs.declared.limited.Taken.{Taken}
use Rattle.hp_io.specs.declared.limited.Taken.TheVariants.{Whole, TooLong}

-- a fact on the bytes of a source that was read whole
abbrev pub IfWhole : Taken → (List ℕ → Type 0) → Type 0
IfWhole (Whole bytes) P = P bytes
IfWhole TooLong P = ⊤

-- these were all that was left, in order, and nothing is left now
pub record IsRest (old new : Option (List ℕ)) (bytes : List ℕ) : Type 0 where
  pub taken : Consumes old new bytes
  pub ended : IsAtEnd new

-- the first so many bytes were taken
abbrev pub Takes : ℕ → Option (List ℕ) → Option (List ℕ) → Type 0
Takes count old new = (bytes : List ℕ) × Consumes old new bytes × (length bytes ≡ count)

-- the first bytes were taken, at most so many
abbrev pub TakesAtMost : ℕ → Option (List ℕ) → Option (List ℕ) → Type 0
TakesAtMost most old new = (bytes : List ℕ) × Consumes old new bytes × (length bytes ≤ most)

-- the bytes where they are within the limit
abbrev pub taken_of : ℕ → List ℕ → Taken
taken_of limit bytes = if nat_lt limit (length bytes) then TooLong else Whole bytes
