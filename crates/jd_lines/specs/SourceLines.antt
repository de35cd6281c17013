-- The lines of a source: what is held of it, and what a line more takes.
use Rattle.std.specs.Prelude.{◌≡◌, ℕ, ◌+◌, ◌<◌, ◌≤◌, Bool, true, false, not, ◌==◌, if◌then◌else◌, List, [], ◌∷◌, ◌++◌, length, take, drop, Option, Some, None}
use Rattle.std.specs.Io.KnownBytes.{Consumes, IsAtEnd}
use Rattle.std.specs.List.{All}
use Rattle.jd_text.specs.Lines.{lines_of}

-- the line that was taken last, what was read beyond it, how many bytes more are within the limit, and whether the
-- source's end was met
pub record LineState : Type 0 where
  pub line : List ℕ
  pub held : List ℕ
  pub within : ℕ
  pub ended : Bool

abbrev pub new_lines : ℕ → LineState
new_lines limit = record { line = []; held = []; within = limit; ended = false }

-- how many reads may still come
abbrev pub reads_left : LineState → ℕ
reads_left s = s.within + (if s.ended then 0 else 1)

abbrev pub NoLineFeed : ℕ → Type 0
NoLineFeed b = (b == 10) ≡ false

-- bytes are added to a line up to the first line feed, which stands at a place
pub record IsFed (old bytes new : List ℕ) (at : ℕ) : Type 0 where
  pub line : new ≡ old ++ take at bytes
  pub rest : bytes ≡ take at bytes ++ 10 ∷ drop (at + 1) bytes
  pub clear : All NoLineFeed (take at bytes)
  pub inside : at < length bytes

abbrev pub IsAdded : List ℕ → List ℕ → List ℕ → Option ℕ → Type 0
IsAdded old bytes new None = (new ≡ old ++ bytes) × All NoLineFeed bytes
IsAdded old bytes new (Some at) = IsFed old bytes new at

-- what was held went to the line, up to the line feed where there is one
abbrev pub held_text : LineState → Bool → List ℕ
held_text new true = new.line ++ 10 ∷ new.held
held_text new false = new.line

pub record IsHeldTaken (old new : LineState) (fed : Bool) : Type 0 where
  pub all : held_text new fed ≡ old.line ++ old.held
  pub clear : All NoLineFeed old.line → All NoLineFeed new.line
  pub within : new.within ≡ old.within
  pub ended : new.ended ≡ false

-- a piece was read, which has a byte unless the source is at its end
pub record IsRefilled (old new : LineState) (before after : Option (List ℕ)) (some : Bool) : Type 0 where
  pub line : new.line ≡ old.line
  pub taken : Consumes before after new.held
  pub within : new.within + length new.held ≡ old.within
  pub some_held : some ≡ true → 0 < length new.held
  pub none_held : some ≡ false → new.held ≡ []
  pub ended : new.ended ≡ not some
  pub at_end : some ≡ false → IsAtEnd after

-- once the end was met nothing is read any more
pub record IsOver (old new : LineState) (before after : Option (List ℕ)) (bytes : List ℕ) : Type 0 where
  pub none : bytes ≡ []
  pub left : after ≡ before
  pub ended : new.ended ≡ true
  pub held : new.held ≡ old.held

-- bytes of the source were read, within the limit. Where its end is met for the first time, it is at its end
pub record HasRead (old new : LineState) (before after : Option (List ℕ)) (bytes : List ℕ) : Type 0 where
  pub taken : Consumes before after bytes
  pub within : new.within + length bytes ≡ old.within
  pub no_more_held : length new.held ≤ length old.held + length bytes
  pub at_end : old.ended ≡ false → new.ended ≡ true → IsAtEnd after
  pub none_held : old.ended ≡ false → new.ended ≡ true → new.held ≡ []
  pub over : old.ended ≡ true → IsOver old new before after bytes

-- of what was held and read, and whatever follows, which is nothing where the end was met, this is the first line
abbrev pub IsFirstLine : LineState → LineState → List ℕ → Type 0
IsFirstLine old new bytes =
    (more : List ℕ) → (new.ended ≡ true → more ≡ []) → lines_of (old.held ++ (bytes ++ more)) ≡ new.line ∷ lines_of (new.held ++ more)

-- there was nothing more
pub record HasNoLine (old new : LineState) (bytes : List ℕ) : Type 0 where
  pub ended : new.ended ≡ true
  pub none : old.held ++ bytes ≡ []

-- a line was taken, or no line is left
abbrev pub IsTaken : LineState → LineState → List ℕ → Bool → Type 0
IsTaken old new bytes true = IsFirstLine old new bytes
IsTaken old new bytes false = HasNoLine old new bytes

abbrev pub Advances : LineState → LineState → Option (List ℕ) → Option (List ℕ) → Bool → Type 0
Advances old new before after some = (bytes : List ℕ) × HasRead old new before after bytes × IsTaken old new bytes some

-- all was read
pub record IsSkipped (old new : LineState) (before after : Option (List ℕ)) : Type 0 where
  pub bytes : List ℕ
  pub read : HasRead old new before after bytes
  pub ended : new.ended ≡ true

-- ---- lines one after another

-- these lines were taken: with whatever follows, which is nothing where the end was met, they are the first
pub record AreTaken (old new : LineState) (before after : Option (List ℕ)) (lines : List (List ℕ)) : Type 0 where
  pub bytes : List ℕ
  pub read : HasRead old new before after bytes
  pub are : (more : List ℕ) → (new.ended ≡ true → more ≡ []) → lines_of (old.held ++ (bytes ++ more)) ≡ lines ++ lines_of (new.held ++ more)

-- these lines were taken, and the source has no other
pub record AreAll (old new : LineState) (before after : Option (List ℕ)) (lines : List (List ℕ)) : Type 0 where
  pub bytes : List ℕ
  pub read : HasRead old new before after bytes
  pub ended : new.ended ≡ true
  pub are : lines_of (old.held ++ bytes) ≡ lines
