-- What each end of a session says of the bytes that were taken and of those that were written.
use Rattle.std.specs.Prelude.{◌≡◌, ℕ, ◌≤◌, false, List, [], ◌∷◌, ◌++◌, length, Option, ⊤, ◌⊎◌}
use Rattle.std.specs.Io.KnownBytes.{Appends, Consumes, IsAtEnd}
use Rattle.hp_model.specs.Session.{SessionEnd, Session, session, session_from, byte_limit, all_done, too_long, bad_word}
use Rattle.hp_session.specs.Steps.{shown}
use Rattle.hp_session.specs.declared.sessions.SessionEnd.{SessionEnd as End}
use Rattle.hp_session.specs.declared.sessions.SessionEnd.TheVariants.{Done, BadWord, TooLong}

-- what a key file gives by the time that these first bytes of it are read: the displays of the lines that have ended
abbrev pub session_so_far : List ℕ → Session
session_so_far bytes = session_from all_done false bytes

-- the bytes that were taken before the last read, which took one byte or came to the end
abbrev pub BeforeLastRead : Option (List ℕ) → List ℕ → List ℕ → Type 0
BeforeLastRead left taken before = (IsAtEnd left × (taken ≡ before)) ⊎ ((b : ℕ) × (taken ≡ before ++ b ∷ []))

-- nothing is left, and the text of the bytes was written
pub record WasDone (left0 left written0 written : Option (List ℕ)) : Type 0 where
  pub taken : List ℕ
  pub wrote : List ℕ
  pub took : Consumes left0 left taken
  pub put : Appends written0 written wrote
  pub whole : IsAtEnd left
  pub gives : session taken ≡ shown wrote

-- the bytes have a bad word, which the last read showed, and the lines that ended before it were written
pub record WasRefused (left0 left written0 written : Option (List ℕ)) (line : ℕ) (word : List ℕ) : Type 0 where
  pub taken : List ℕ
  pub wrote : List ℕ
  pub took : Consumes left0 left taken
  pub put : Appends written0 written wrote
  pub gives : session taken ≡ record { text = wrote; ended = bad_word line word }
  pub before : List ℕ
  pub last : BeforeLastRead left taken before
  pub good_before : session_so_far before ≡ shown wrote

-- one byte more than the limit was taken, and the lines that ended within the limit were written
pub record WasCutOff (left0 left written0 written : Option (List ℕ)) : Type 0 where
  pub taken : List ℕ
  pub wrote : List ℕ
  pub took : Consumes left0 left taken
  pub put : Appends written0 written wrote
  pub gives : session taken ≡ record { text = wrote; ended = too_long }
  pub before : List ℕ
  pub past : ℕ
  pub last : taken ≡ before ++ past ∷ []
  pub full : length before ≡ byte_limit
  pub good_before : session_so_far before ≡ shown wrote

-- the lines that ended in the bytes taken were written, and no word in them is bad
pub record WasStopped (left0 left written0 written : Option (List ℕ)) : Type 0 where
  pub taken : List ℕ
  pub wrote : List ℕ
  pub took : Consumes left0 left taken
  pub put : Appends written0 written wrote
  pub within : length taken ≤ byte_limit
  pub gives : session_so_far taken ≡ shown wrote

-- the lines before the last were written whole, and of the last a front
pub record WasCutShort (left0 left written0 written : Option (List ℕ)) : Type 0 where
  pub taken : List ℕ
  pub lines : List ℕ
  pub part : List ℕ
  pub left_out : List ℕ
  pub took : Consumes left0 left taken
  pub put : Appends written0 written (lines ++ part)
  pub before : List ℕ
  pub last : BeforeLastRead left taken before
  pub whole_before : session_so_far before ≡ shown lines
  pub due : session taken ≡ shown (lines ++ part ++ left_out)

-- a fact on the line and the word of a bad word
abbrev pub IfBadWord : End → (ℕ → List ℕ → Type 0) → Type 0
IfBadWord (BadWord line word) P = P line word.items
IfBadWord _ P = ⊤

-- a fact on the end as the definition names it, unless a fault came
abbrev pub IfNoFault : End → (SessionEnd → Type 0) → Type 0
IfNoFault Done P = P all_done
IfNoFault (BadWord line word) P = P (bad_word line word.items)
IfNoFault TooLong P = P too_long
IfNoFault _ P = ⊤
