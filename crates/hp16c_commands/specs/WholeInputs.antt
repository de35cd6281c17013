-- What the commands that read their whole input answer, keep and write.
use Rattle.std.specs.Prelude.{◌≡◌, ℕ, ◌+◌, ◌<◌, ◌≤◌, Bool, true, false, ◌||◌, List, ◌++◌, length, Option, ⊤, ◌⊎◌}
use Rattle.std.specs.Io.KnownBytes.{Appends}
use Rattle.hp_io.specs.Limited.{IsRest, Takes}
use Rattle.jd_logic.specs.LratCommand as lrat_command
use Rattle.hp16c_commands.specs.declared.outcomes.Outcome.{Outcome}
use Rattle.hp16c_commands.specs.declared.outcomes.Status.{Status}
use Rattle.hp16c_commands.specs.declared.outcomes.Status.TheVariants.{Done, Different, Unknown, Usage, BadInput, Limit, ReadFault, WriteFault, NoMemory, CertRefused, TooManyPaths}
use Rattle.hp16c_commands.specs.declared.whole_inputs.WholeInput.{WholeInput}
use Rattle.hp16c_commands.specs.declared.whole_inputs.WholeInput.TheVariants as inputs
use Rattle.hp16c_commands.specs.Answers.{Answer, too_long}
use Rattle.hp16c_commands.specs.Lrat.{lrat_answer}
use Rattle.hp16c_commands.specs.Routines.{asm_answer, list_answer}
use Rattle.hp16c_commands.specs.Replays.{replay_answer}
use Rattle.hp16c_commands.specs.Judging.{JudgeAnswers}
use Rattle.hp16c_commands.specs.Checking.{CheckAnswers}
use Rattle.hp16c_commands.specs.Debugging.{debug_answer}
use Rattle.hp16c_commands.specs.Specifying.{SpecAnswers}
use Rattle.hp16c_commands.specs.Shortening.{ShortAnswers}

-- the greatest input, in bytes
abbrev pub limit_of : WholeInput → ℕ
limit_of inputs.Lrat = lrat_command.limit
limit_of inputs.Assemble = 65_536
limit_of inputs.List = 65_536
limit_of inputs.Replay = 131_072
limit_of inputs.Judge = 65_536
limit_of inputs.Check = 268_500_992
limit_of inputs.Debug = 1_000_000
limit_of inputs.Spec = 65_536
limit_of inputs.Short = 65_536

-- an answer to bytes within the limit. That of `judge`, `check`, `spec` and `short` keeps more than the bytes decide
abbrev pub Answers : WholeInput → List ℕ → Answer → Type 0
Answers inputs.Lrat bytes answer = answer ≡ lrat_answer bytes
Answers inputs.Assemble bytes answer = answer ≡ asm_answer bytes
Answers inputs.List bytes answer = answer ≡ list_answer bytes
Answers inputs.Replay bytes answer = answer ≡ replay_answer bytes
Answers inputs.Judge bytes answer = JudgeAnswers bytes answer
Answers inputs.Check bytes answer = CheckAnswers bytes answer
Answers inputs.Debug bytes answer = answer ≡ debug_answer bytes
Answers inputs.Spec bytes answer = SpecAnswers bytes answer
Answers inputs.Short bytes answer = ShortAnswers bytes answer

-- an answer to any bytes: the limit is looked at first
pub data IsAnswerTo (command : WholeInput) (bytes : List ℕ) (answer : Answer) : Type 0 where
  within : length bytes ≤ limit_of command → Answers command bytes answer → IsAnswerTo command bytes answer
  past : limit_of command < length bytes → answer ≡ too_long → IsAnswerTo command bytes answer

-- the source was read to its end, within the limit, and this answers its bytes
pub record IsWithinLimit (command : WholeInput) (left0 left : Option (List ℕ)) (answer : Answer) : Type 0 where
  pub taken : List ℕ
  pub rest : IsRest left0 left taken
  pub within : length taken ≤ limit_of command
  pub answers : Answers command taken answer

-- one byte past the limit was read
pub record IsTooLong (command : WholeInput) (left0 left : Option (List ℕ)) (answer : Answer) : Type 0 where
  pub took : Takes (limit_of command + 1) left0 left
  pub answer_is : answer ≡ too_long

-- an answer to what the source gave
abbrev pub IsAnswer : WholeInput → Option (List ℕ) → Option (List ℕ) → Answer → Type 0
IsAnswer command left0 left answer = IsWithinLimit command left0 left answer ⊎ IsTooLong command left0 left answer

-- an answer, with its text written
pub record WasGiven (command : WholeInput) (outcome : Outcome) (left0 left written0 written : Option (List ℕ)) : Type 0 where
  pub text : List ℕ
  pub answer : IsAnswer command left0 left (record { outcome = outcome; text = text })
  pub put : Appends written0 written text

-- an answer, of whose text only a front was written
pub record WasCutShort (command : WholeInput) (left0 left written0 written : Option (List ℕ)) : Type 0 where
  pub outcome : Outcome
  pub part : List ℕ
  pub left_out : List ℕ
  pub answer : IsAnswer command left0 left (record { outcome = outcome; text = part ++ left_out })
  pub put : Appends written0 written part

-- an answer to bytes that the source told, with its text written
pub record WasTold (command : WholeInput) (bytes : List ℕ) (outcome : Outcome) (written0 written : Option (List ℕ)) : Type 0 where
  pub text : List ℕ
  pub answer : IsAnswerTo command bytes (record { outcome = outcome; text = text })
  pub put : Appends written0 written text

-- what was written and kept, status by status. With the statuses that no answer has nothing is
abbrev pub Did : WholeInput → Outcome → Option (List ℕ) → Option (List ℕ) → Option (List ℕ) → Option (List ℕ) → Type 0
Did command outcome left0 left written0 written = by_status outcome.status
  where
    by_status : Status → Type 0
    by_status Usage = ⊥
    by_status ReadFault = written ≡ written0
    by_status NoMemory = written ≡ written0
    by_status WriteFault = WasCutShort command left0 left written0 written
    by_status _ = WasGiven command outcome left0 left written0 written

-- a fact where an answer was given: no read or write failed, and memory was there
abbrev pub IfGiven : Status → Type 0 → Type 0
IfGiven ReadFault P = ⊤
IfGiven WriteFault P = ⊤
IfGiven NoMemory P = ⊤
IfGiven _ P = P

-- which statuses the judge's answers have that aren't its good one
abbrev pub is_judged : Status → Bool
is_judged Different = true
is_judged Unknown = true
is_judged TooManyPaths = true
is_judged _ = false

-- which statuses an answer to a command may have
abbrev pub is_answer_of : WholeInput → Status → Bool
is_answer_of _ Done = true
is_answer_of _ BadInput = true
is_answer_of _ Limit = true
is_answer_of inputs.Replay Different = true
is_answer_of inputs.Lrat CertRefused = true
is_answer_of inputs.Check CertRefused = true
is_answer_of inputs.Judge status = is_judged status
is_answer_of inputs.Spec status = is_judged status
is_answer_of inputs.Short status = is_judged status
is_answer_of _ _ = false

-- statuses with which nothing is answered, so that nothing is kept
abbrev pub is_fault : Status → Bool
is_fault ReadFault = true
is_fault WriteFault = true
is_fault NoMemory = true
is_fault _ = false

-- which statuses a command may end with
abbrev pub can_end : WholeInput → Status → Bool
can_end command status = is_fault status || is_answer_of command status
