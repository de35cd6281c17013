-- What the command `keys` answers and writes for the bytes of a key file.
use Rattle.std.specs.Prelude.{◌≡◌, ℕ, ◌+◌, List, [], ◌++◌, length, Option, ⊤}
use Rattle.std.specs.Io.KnownBytes.{Appends, Consumes, IsAtEnd}
use Rattle.hp_model.specs.Session.{SessionEnd, session, byte_limit}
use Rattle.hp_model.specs.Session as ends
use Rattle.hp_session.specs.Steps.{shown}
use Rattle.hp_session.specs.Ends.{session_so_far, BeforeLastRead, WasStopped}
use Rattle.hp16c_commands.specs.declared.outcomes.Status.{Status}
use Rattle.hp16c_commands.specs.declared.outcomes.Status.TheVariants.{Done, BadInput, Limit, ReadFault, WriteFault}
use Rattle.hp16c_commands.specs.Refusals as refusals

abbrev pub status_of_end : SessionEnd → Status
status_of_end ends.all_done = Done
status_of_end (ends.bad_word line word) = BadInput
status_of_end ends.too_long = Limit

-- the line after the displays
abbrev pub last_words : SessionEnd → List ℕ
last_words ends.all_done = []
last_words (ends.bad_word line word) = refusals.bad_line line
last_words ends.too_long = refusals.too_long

abbrev pub keys_status : List ℕ → Status
keys_status bytes = status_of_end (session bytes).ended

abbrev pub keys_text : List ℕ → List ℕ
keys_text bytes = (session bytes).text ++ last_words (session bytes).ended

-- a fact where the answer is no fault
abbrev pub IfAnswer : Status → Type 0 → Type 0
IfAnswer ReadFault P = ⊤
IfAnswer WriteFault P = ⊤
IfAnswer _ P = P

-- how far the bytes were taken: to the end; to the place that shows the bad word, which none shows before; or to one past the limit
abbrev pub TakenTo : Status → Option (List ℕ) → List ℕ → Type 0
TakenTo Done left taken = IsAtEnd left
TakenTo BadInput left taken = (before : List ℕ) × BeforeLastRead left taken before × ((session_so_far before).ended ≡ ends.all_done)
TakenTo Limit left taken = length taken ≡ byte_limit + 1
TakenTo _ left taken = ⊤

-- the status and the text are those of the bytes that were taken
pub record WasAnswered (status : Status) (left0 left written0 written : Option (List ℕ)) : Type 0 where
  pub taken : List ℕ
  pub took : Consumes left0 left taken
  pub status_is : keys_status taken ≡ status
  pub put : Appends written0 written (keys_text taken)
  pub to : TakenTo status left taken

-- the lines that ended before the last read were written whole, and of what was due then a front
pub record WasCut (left0 left written0 written : Option (List ℕ)) : Type 0 where
  pub taken : List ℕ
  pub lines : List ℕ
  pub part : List ℕ
  pub left_out : List ℕ
  pub took : Consumes left0 left taken
  pub put : Appends written0 written (lines ++ part)
  pub before : List ℕ
  pub last : BeforeLastRead left taken before
  pub whole_before : session_so_far before ≡ shown lines
  pub due : keys_text taken ≡ lines ++ part ++ left_out

-- what was written, status by status. `keys` ends with no other
abbrev pub KeysDid : Status → Option (List ℕ) → Option (List ℕ) → Option (List ℕ) → Option (List ℕ) → Type 0
KeysDid Done left0 left written0 written = WasAnswered Done left0 left written0 written
KeysDid BadInput left0 left written0 written = WasAnswered BadInput left0 left written0 written
KeysDid Limit left0 left written0 written = WasAnswered Limit left0 left written0 written
KeysDid ReadFault left0 left written0 written = WasStopped left0 left written0 written
KeysDid WriteFault left0 left written0 written = WasCut left0 left written0 written
KeysDid _ left0 left written0 written = ⊥

-- the answer to bytes that the source told
pub record KeysTold (status : Status) (bytes : List ℕ) (written0 written : Option (List ℕ)) : Type 0 where
  pub status_is : status ≡ keys_status bytes
  pub put : Appends written0 written (keys_text bytes)
