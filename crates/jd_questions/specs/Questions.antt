-- Questions of the code, and their literals.
use Rattle.std.specs.Prelude.{◌≡◌, ℕ, ◌+◌, ◌^◌, ◌<◌, Bool, List, length, take, Option, Some, None}
use Rattle.hp_model.specs.Operations.{Operation}
use Rattle.hp_model.specs.State.{Control as ControlState, Data}
use Rattle.hp_model.specs.Questions.{Question as Asked, answers, asks, holds, next_question, x_magnitude}
use Rattle.hp_model.specs.Questions as questions
use Rattle.hp_ops.specs.Meaning.{condition}
use Rattle.hp_ops.specs.declared.groups.Loop.{Loop}
use Rattle.hp_ops.specs.declared.groups.Loop.TheVariants as loop
use Rattle.jd_circuit.specs.declared.literals.Lit.{Lit}
use Rattle.jd_circuit.specs.Meaning.{lit_value}
use Rattle.jd_circuit.specs.Net.{Net, IsOf, Solves}
use Rattle.jd_content.specs.declared.content.SymContent.{SymContent}
use Rattle.jd_content.specs.Meaning.{data_on}
use Rattle.jd_questions.specs.declared.question.Question.{Question}
use Rattle.jd_questions.specs.declared.question.Question.TheVariants as question
use Rattle.jd_questions.specs.declared.numbers.Next.{Next}
use Rattle.jd_questions.specs.declared.numbers.Next.TheVariants as next

-- ---- which question

abbrev pub count_of : Loop → Asked
count_of loop.Decrement = questions.decrement_is_zero
count_of loop.Increment = questions.increment_is_zero

-- the machine's question that a question of the code is
abbrev pub asked : Question → Asked
asked (question.Test test) = questions.test_holds (condition test)
asked (question.Flag flag) = questions.flag_is_set flag.number
asked question.XIsZero = questions.x_is_zero
asked question.XIsNegative = questions.x_is_negative
asked question.QuotientIsTooGreat = questions.quotient_is_too_great
asked question.MagnitudeAboveSize = questions.magnitude_above_size
asked question.MagnitudeAtLeastSize = questions.magnitude_at_least_size
asked question.MagnitudeAbove64 = questions.magnitude_above_64
asked question.BitOfY = questions.bit_of_y_is_set
asked (question.CountIsZero l) = count_of l
asked question.IndexPastRegisters = questions.index_past_registers
asked question.IndexAbove15 = questions.index_above_15
asked (question.IndexBit place) = questions.index_bit_is_set place
asked (question.MagnitudeBit place) = questions.magnitude_bit_is_set place

abbrev pub asked_if : Option Question → Option Asked
asked_if None = None
asked_if (Some q) = Some (asked q)

-- of a number: whether it is too great, one of its bits, or nothing
abbrev pub of_number : Next → Asked → (ℕ → Asked) → Option Asked
of_number next.First first bit = Some first
of_number (next.Bit place) first bit = Some (bit place)
of_number next.Done first bit = None

-- ---- what the answer is

-- the questions after a no are asked of data that gave it
abbrev pub IsAsked : Asked → ControlState → Data → Type 0
IsAsked questions.quotient_is_too_great k d = 0 < x_magnitude k d
IsAsked questions.bit_of_y_is_set k d = x_magnitude k d < k.size
IsAsked _ k d = Unit {0}

-- the gates that a question's literal may take
abbrev pub question_gates : Asked → ℕ
question_gates questions.quotient_is_too_great = 2 ^ 16 + 2 ^ 12
question_gates _ = 2 ^ 12

abbrev pub asked_gates : Option Asked → ℕ
asked_gates None = 0
asked_gates (Some q) = question_gates q

-- a literal for an operation's next question, on all values on which the data gives the answers so far
pub record IsAsk (net : Net) (k : ControlState) (content : SymContent) (op : Operation) (given : List Bool) (l : Lit) : Type 0 where
  pub question : Asked
  pub next : asks k op given ≡ Some question
  pub inside : IsOf net l
  pub means : (val : ℕ → Bool) → Solves net val → take (length given) (answers k op (data_on val content)) ≡ given
      → lit_value val l ≡ holds question k (data_on val content)

-- what an operation asks next: None exactly where it asks no more
abbrev pub Asks : Net → ControlState → SymContent → Operation → List Bool → Option Lit → Type 0
Asks net k content op given None = asks k op given ≡ None
Asks net k content op given (Some l) = IsAsk net k content op given l
