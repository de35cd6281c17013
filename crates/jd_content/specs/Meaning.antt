-- What contents of literals mean for values of the variables, and what one operation does to them.
use Rattle.std.specs.Prelude.{◌≡◌, ℕ, ◌*◌, ◌/◌, Bool, List, length, map, take, drop, slice_set, Option, Some, None}
use Rattle.hp_model.specs.declared.Answer.{Answer}
use Rattle.hp_model.specs.Lists.{tabulated}
use Rattle.hp_model.specs.Operations.{Operation}
use Rattle.hp_model.specs.State.{Control as ControlState, Data}
use Rattle.hp_model.specs.Questions.{answers}
use Rattle.hp_model.specs.DataStep.{changed}
use Rattle.jd_circuit.specs.declared.literals.Lit.{Lit}
use Rattle.jd_circuit.specs.Meaning.{lit_value}
use Rattle.jd_circuit.specs.Net.{Net, Grows, Solves, variables}
use Rattle.jd_vectors.specs.Number.{number, Inside}
use Rattle.jd_rows.specs.declared.answer.SymAnswer.{SymAnswer}
use Rattle.jd_rows.specs.Answers.{answer_on, IsWord, AnswerFits}
use Rattle.jd_content.specs.declared.content.SymContent.{SymContent}

-- ---- meaning

-- nibble j of literals that stand four a nibble
abbrev pub nibble_on : (ℕ → Bool) → List Lit → ℕ → ℕ
nibble_on val ls j = number val (take 4 (drop (4 * j) ls))

abbrev pub nibbles_on : (ℕ → Bool) → List Lit → List ℕ
nibbles_on val ls = tabulated (nibble_on val ls) (length ls / 4)

abbrev pub data_on : (ℕ → Bool) → SymContent → Data
data_on val c = record {
  x = number val c.x;
  y = number val c.y;
  z = number val c.z;
  t = number val c.t;
  last = number val c.l;
  index = number val c.i;
  flags = map (lit_value val) c.flags;
  nibbles = nibbles_on val c.nibbles;
}

-- the flags after an answer
abbrev pub flag_after : ℕ → Option Bool → List Bool → List Bool
flag_after n None flags = flags
flag_after n (Some b) flags = slice_set flags n b

-- ---- the shape of content

-- words of w bits, of n variables
pub record Fits (n w : ℕ) (c : SymContent) : Type 0 where
  pub x : IsWord n w c.x
  pub y : IsWord n w c.y
  pub z : IsWord n w c.z
  pub t : IsWord n w c.t
  pub l : IsWord n w c.l
  pub i : IsWord n 64 c.i
  pub flags : Inside n c.flags
  pub nibbles : Inside n c.nibbles

-- ---- one operation

-- an answer is put into the content, and is then in the data
pub record Puts (put : Answer → Data → Data) (answer : SymAnswer) (old new : SymContent) : Type 0 where
  pub meaning : (val : ℕ → Bool) → data_on val new ≡ put (answer_on val answer) (data_on val old)
  pub fits : (n w : ℕ) → Fits n w old → AnswerFits n w answer → Fits n w new
  pub same : length new.nibbles ≡ length old.nibbles

-- what an operation that doesn't err does, on all values that solve the gates. The new words have w bits
pub record Changes (old_net net : Net) (k : ControlState) (op : Operation) (given : List Bool) (w : ℕ) (old new : SymContent) : Type 0 where
  pub contents : (val : ℕ → Bool) → Solves net val → answers k op (data_on val old) ≡ given
      → data_on val new ≡ changed k op given (data_on val old)
  pub fits : Fits (variables net) w new
  pub same : length new.nibbles ≡ length old.nibbles
  pub grows : Grows old_net net
