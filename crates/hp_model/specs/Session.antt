-- Key files: what is written for a list of bytes, and how it ends.
use Rattle.std.specs.Prelude.{ℕ, ◌+◌, Bool, false, true, not, ◌||◌, ◌==◌, nat_lt, nat_le, if◌then◌else◌, List, [], ◌∷◌, ◌++◌, length, take, Option, Some, None, option_map}
use Rattle.hp_model.specs.declared.Extent.{Extent}
use Rattle.hp_model.specs.KeyWords.{key_of_word, extent_of_word}
use Rattle.hp_model.specs.State.{standard_bytes, memory_bytes}
use Rattle.hp_model.specs.Press.{Calculator, new_calculator, press}
use Rattle.hp_model.specs.Display.{display}

-- a key file in order: its words, and the ends of its lines
pub data Part : Type 0 where
  word : List ℕ → Part
  line_end : Part

abbrev pub is_separator : ℕ → Bool
is_separator b = b == 32 || b == 9 || b == 13 || b == 10

abbrev pub word_if_any : List ℕ → List Part
word_if_any [] = []
word_if_any (b ∷ w) = word (b ∷ w) ∷ []

abbrev pub end_of_line : ℕ → List Part
end_of_line b = if b == 10 then line_end ∷ [] else []

-- The parts of bytes that come after the letters `w` of a word. Where the bytes aren't the whole file, a word at their
-- end may go on: it counts only if it has eight bytes already, which no key word has.
abbrev pub parts_after : Bool → List ℕ → List ℕ → List Part
parts_after whole w [] = if whole || nat_le 8 (length w) then word_if_any w else []
parts_after whole w (b ∷ bytes) = elim (is_separator b) [
  | true ↦ word_if_any w ++ end_of_line b ++ parts_after whole [] bytes
  | false ↦ parts_after whole (w ++ b ∷ []) bytes
]

-- the last line may lack its LF if it has a byte
abbrev pub last_line : Bool → List ℕ → List Part
last_line begun [] = if begun then line_end ∷ [] else []
last_line begun (b ∷ bytes) = last_line (not (b == 10)) bytes

abbrev pub open_line : Bool → Bool → List ℕ → List Part
open_line whole begun bytes = if whole then last_line begun bytes else []

abbrev pub parts_of : Bool → List ℕ → List Part
parts_of whole bytes = parts_after whole [] bytes ++ open_line whole false bytes

pub data SessionEnd : Type 0 where
  all_done too_long : SessionEnd
  bad_word : ℕ → List ℕ → SessionEnd

pub record Session : Type 0 where
  pub text : List ℕ
  pub ended : SessionEnd

abbrev pub ending : SessionEnd → Session
ending end = record { text = []; ended = end }

abbrev pub preceded : List ℕ → Session → Session
preceded text rest = record { text = text ++ rest.text; ended = rest.ended }

-- the machine that a word names. Only the first word of the first line may name one
abbrev pub machine_named : Bool → List ℕ → Option Extent
machine_named first w = if first then extent_of_word w else None

-- the calculator after a word: the new one that it names, or with its key pressed
abbrev pub after_word : Bool → Calculator → List ℕ → Option Calculator
after_word first s w = elim (machine_named first w) [
  | Some extent ↦ Some (new_calculator (memory_bytes extent))
  | None ↦ option_map (press s) (key_of_word w)
]

-- the parts in order: the calculator and the line's number change, and each line gives a display. `first` says whether the
-- first word of the first line is still to come
abbrev pub session_of : SessionEnd → Bool → Calculator → ℕ → List Part → Session
session_of end first s line [] = ending end
session_of end first s line (word w ∷ parts) = elim (after_word first s w) [
  | None ↦ ending (bad_word line (take 8 w))
  | Some after ↦ session_of end false after line parts
]
session_of end first s line (line_end ∷ parts) = preceded (display s ++ 10 ∷ []) (session_of end false s (line + 1) parts)

-- the greatest number of bytes of a key file
abbrev pub byte_limit : ℕ
byte_limit = 1000000

-- what bytes give that are the whole file, or the front of one
abbrev pub session_from : SessionEnd → Bool → List ℕ → Session
session_from end whole bytes = session_of end true (new_calculator standard_bytes) 1 (parts_of whole bytes)

-- what a key file gives, where so many bytes are the limit
abbrev pub session_within : ℕ → List ℕ → Session
session_within limit bytes = elim (nat_lt limit (length bytes)) [
  | true ↦ session_from too_long false (take limit bytes)
  | false ↦ session_from all_done true bytes
]

-- what a key file gives
abbrev pub session : List ℕ → Session
session bytes = session_within byte_limit bytes
