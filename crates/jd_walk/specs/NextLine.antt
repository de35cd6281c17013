-- What the next line of a symbolic machine asks and does, for values of the variables.
use Rattle.std.specs.Prelude.{◌≡◌, ℕ, ◌≤◌, Bool, true, List, ◌++◌, Option, Some, None}
use Rattle.hp_model.specs.declared.End.TheVariants.{Error}
use Rattle.hp_model.specs.declared.Stop.{Stop}
use Rattle.hp_model.specs.declared.Stop.TheVariants.{Ended}
use Rattle.hp_model.specs.State.{memory_bytes, register_nibbles}
use Rattle.hp_model.specs.Questions.{Question, holds, next_question}
use Rattle.hp_model.specs.Run.{advanced, control_done, line_answers}
use Rattle.jd_circuit.specs.declared.literals.Lit.{Lit}
use Rattle.jd_circuit.specs.Meaning.{lit_value}
use Rattle.jd_circuit.specs.Net.{IsLit, Net, Solves, variables}
use Rattle.jd_content.specs.Meaning.{data_on}
use Rattle.jd_symbolic.specs.declared.machine.SymMachine.{SymMachine}
use Rattle.jd_symbolic.specs.Machine.{Stands, state_of}
use Rattle.jd_books.specs.Paths.{begins, line_questions}
use Rattle.jd_books.specs.Walks.{OpenQuestion, data_done, machine_of}

-- how many nibbles belong to a machine's registers
abbrev pub nibbles_of : SymMachine → ℕ
nibbles_of m = register_nibbles (memory_bytes m.extent) m.blocks

-- a machine at another line, and where an error leaves it after the operation of a line
abbrev pub at_line : ℕ → SymMachine → SymMachine
at_line line m = record m { control = record m.control { line = line } }

abbrev pub restored_at : ℕ → Stop → SymMachine → SymMachine
restored_at line (Ended (Error n)) m = at_line line m
restored_at line stop m = m

-- a machine's shape, at a line from 1 on
pub record StandsAtLine (net : Net) (m : SymMachine) : Type 0 where
  pub stands : Stands net m
  pub line : 1 ≤ m.control.line

-- a literal for the next question of the next line
pub record IsLineAsk (net : Net) (m : SymMachine) (given : List Bool) (l : Lit) : Type 0 where
  pub question : Question
  pub is_open : OpenQuestion (state_of m) given question
  pub inside : IsLit (variables net) l
  pub means : (val : ℕ → Bool) (rest : List Bool) → Solves net val → begins given (line_answers (machine_of (state_of m) (data_on val m.content)) ++ rest) ≡ true
      → lit_value val l ≡ holds question (advanced (state_of m)) (data_on val m.content)

-- what the next line asks next
pub record LineAsks (net : Net) (m : SymMachine) (given : List Bool) (asked : Option Lit) : Type 0 where
  pub none : asked ≡ None → next_question (line_questions (state_of m)) given ≡ None
  pub some : (l : Lit) → asked ≡ Some l → IsLineAsk net m given l

-- the next line done, from the answers to what it asks
pub record LineSteps (net : Net) (old new : SymMachine) (given : List Bool) (stop : Stop) : Type 0 where
  pub control : control_done (state_of old) given ≡ (state_of new, stop)
  pub contents : (val : ℕ → Bool) → Solves net val → line_answers (machine_of (state_of old) (data_on val old.content)) ≡ given
      → data_on val new.content ≡ data_done (state_of old) given (data_on val old.content)
  pub stands : Stands net new
