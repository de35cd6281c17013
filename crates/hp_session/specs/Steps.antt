-- What a byte, and the end of a key file, do to what was read so far.
use Rattle.std.specs.Prelude.{◌≡◌, ℕ, Bool, true, List, [], ◌∷◌, ◌++◌, Option}
use Rattle.std.specs.Io.KnownBytes.{Appends, Keeps}
use Rattle.hp_model.specs.Display.{display}
use Rattle.hp_model.specs.Session.{SessionEnd, Session, preceded, ending, all_done, bad_word}
use Rattle.hp_session.specs.Progress.{Progress, to_come}
use Rattle.hp_session.specs.declared.sessions.SessionEnd.{SessionEnd as End}
use Rattle.hp_session.specs.declared.sessions.SessionEnd.TheVariants.{Done, BadWord, WriteFault}

-- a text, and no end before the end of the file
abbrev pub shown : List ℕ → Session
shown text = record { text = text; ended = all_done }

abbrev pub IsBadWord : End → ℕ → List ℕ → Type 0
IsBadWord (BadWord line word) at letters = (line ≡ at) × (word.items ≡ letters)
IsBadWord _ at letters = ⊥

-- a byte was read, and a text was written: what is to come follows it
pub record Goes (byte : ℕ) (old new : Progress) (written0 written : Option (List ℕ)) : Type 0 where
  pub text : List ℕ
  pub put : Appends written0 written text
  pub gives : (end : SessionEnd) (whole : Bool) (rest : List ℕ) → to_come end whole old (byte ∷ rest) ≡ preceded text (to_come end whole new rest)

-- a front of what is due was written
pub record Cut (due : Session) (written0 written : Option (List ℕ)) : Type 0 where
  pub text : List ℕ
  pub left_out : List ℕ
  pub put : Appends written0 written text
  pub whole : due ≡ shown (text ++ left_out)

-- the session ended at a byte
abbrev pub Halts : ℕ → End → Progress → Option (List ℕ) → Option (List ℕ) → Type 0
Halts byte (BadWord line word) p written0 written = Keeps written0 written
    × ((end : SessionEnd) (whole : Bool) (rest : List ℕ) → to_come end whole p (byte ∷ rest) ≡ ending (bad_word line word.items))
Halts byte WriteFault p written0 written = Cut (to_come all_done true p (byte ∷ [])) written0 written
Halts byte _ p written0 written = ⊥

-- the session ended at the end of the file
abbrev pub Finishes : End → Progress → Option (List ℕ) → Option (List ℕ) → Type 0
Finishes Done p written0 written = (text : List ℕ) × Appends written0 written text × (to_come all_done true p [] ≡ shown text)
Finishes (BadWord line word) p written0 written = Keeps written0 written × (to_come all_done true p [] ≡ ending (bad_word line word.items))
Finishes WriteFault p written0 written = Cut (to_come all_done true p []) written0 written
Finishes _ p written0 written = ⊥

-- a line's display was cut short
abbrev pub CutsLine : End → Progress → Option (List ℕ) → Option (List ℕ) → Type 0
CutsLine WriteFault p written0 written = Cut (shown (display p.calculator ++ 10 ∷ [])) written0 written
CutsLine _ p written0 written = ⊥
