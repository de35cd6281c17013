-- How far the reading of a key file has come.
use Rattle.std.specs.Prelude.{ℕ, ◌+◌, Bool, true, false, List, [], ◌∷◌, ◌++◌, Option, Some, None}
use Rattle.hp_model.specs.State.{standard_bytes}
use Rattle.hp_model.specs.Press.{Calculator, new_calculator}
use Rattle.hp_model.specs.Session.{SessionEnd, Session, after_word, session_of, parts_after, open_line}

-- the calculator, the number of the line, the letters of the word that is open, whether the line has a byte, and whether
-- the first word of the first line is still to end
pub record Progress : Type 0 where
  pub calculator : Calculator
  pub line : ℕ
  pub word : List ℕ
  pub begun : Bool
  pub first : Bool

abbrev pub nothing_read : Progress
nothing_read = record { calculator = new_calculator standard_bytes; line = 1; word = []; begun = false; first = true }

-- what the bytes that follow give: all that follow, or a front of them
abbrev pub to_come : SessionEnd → Bool → Progress → List ℕ → Session
to_come end whole p rest = session_of end p.first p.calculator p.line (parts_after whole p.word rest ++ open_line whole p.begun rest)

abbrev pub went_on : Progress → Option Calculator → Option Progress
went_on p None = None
went_on p (Some s) = Some (record p { calculator = s; word = []; first = false })

-- the open word has ended: none, where it is bad
abbrev pub word_ended_as : Progress → List ℕ → Option Progress
word_ended_as p [] = Some p
word_ended_as p (b ∷ w) = went_on p (after_word p.first p.calculator (b ∷ w))

abbrev pub word_ended : Progress → Option Progress
word_ended p = word_ended_as p p.word

abbrev pub letter_added : ℕ → Progress → Progress
letter_added b p = record p { word = p.word ++ b ∷ []; begun = true }

abbrev pub line_ended : Progress → Progress
line_ended p = record p { line = p.line + 1; begun = false; first = false }
