-- What a symbolic machine means for values of the variables, and on lists of bits.
use Rattle.std.specs.Prelude.{◌≡◌, ℕ, ◌*◌, Bool, true, false, List, length, take, Option, Some, None}
use Rattle.hp_model.specs.declared.Stop.{Stop}
use Rattle.hp_model.specs.Operations.{Operation}
use Rattle.hp_model.specs.State.{Control as ControlState, memory_bytes, register_nibbles}
use Rattle.hp_model.specs.Questions.{answers, asks, holds, Question}
use Rattle.hp_model.specs.ControlStep.{control_step}
use Rattle.hp_model.specs.DataStep.{data_step}
use Rattle.jd_circuit.specs.declared.literals.Lit.{Lit}
use Rattle.jd_circuit.specs.Net.{Net, Solves, at, eval, values_of, variables}
use Rattle.hp_control.specs.Controls.{InBounds, Listing, control_of}
use Rattle.jd_content.specs.Meaning.{Fits, data_on}
use Rattle.jd_questions.specs.Questions as literals
use Rattle.jd_model.specs.Problems.{Problem}
use Rattle.jd_symbolic.specs.declared.machine.SymMachine.{SymMachine}

-- the program beside a machine's control, and both
abbrev pub listing_of : SymMachine → Listing
listing_of m = record { bytes = memory_bytes m.extent; codes = m.codes; blocks = m.blocks }

abbrev pub state_of : SymMachine → ControlState
state_of m = control_of m.control (listing_of m)

-- a machine's shape, over a circuit
pub record Stands (net : Net) (m : SymMachine) : Type 0 where
  pub fits : Fits (variables net) m.control.size.bits m.content
  pub nibbles : length m.content.nibbles ≡ 4 * register_nibbles (memory_bytes m.extent) m.blocks
  pub bounds : InBounds m.control (listing_of m)

-- what an operation asks of a machine next: None exactly where it asks no more, and else the literal of the question
abbrev pub Asks : Net → SymMachine → Operation → List Bool → Option Lit → Type 0
Asks net m op given l = literals.Asks net (state_of m) m.content op given l

-- one operation done to a machine, on all values on which the data gives its answers
pub record Steps (net : Net) (old new : SymMachine) (stop : Stop) (op : Operation) (given : List Bool) : Type 0 where
  pub control : control_step (state_of old) op given ≡ (state_of new, stop)
  pub contents : (val : ℕ → Bool) → Solves net val → answers (state_of old) op (data_on val old.content) ≡ given
      → data_on val new.content ≡ data_step (state_of old) op given (data_on val old.content)
  pub stands : Stands net new

-- the routine of the first run, or of the second
abbrev pub routine_of : Problem → Bool → List ℕ
routine_of p false = p.first
routine_of p true = p.second

-- ---- the same on each list of bits

-- the values of all variables on a list of bits
abbrev pub val_of : Net → List Bool → ℕ → Bool
val_of net bits = at (values_of bits net.gates)

-- on each list of bits on which the data gives the answers so far, the literal is the truth of the next question
abbrev pub AsksOnBits : Net → Net → SymMachine → Operation → List Bool → Option Lit → Type 0
AsksOnBits old_net net m op given None = asks (state_of m) op given ≡ None
AsksOnBits old_net net m op given (Some l) = (q : Question) × (asks (state_of m) op given ≡ Some q)
    × ((bits : List Bool) → length bits ≡ old_net.inputs → take (length given) (answers (state_of m) op (data_on (val_of old_net bits) m.content)) ≡ given
    → eval net bits l ≡ holds q (state_of m) (data_on (val_of old_net bits) m.content))

-- on each list of bits on which the data before gives the answers, the data after is that of the step
abbrev pub StepsOnBits : Net → Net → SymMachine → SymMachine → Operation → List Bool → Type 0
StepsOnBits old_net net old new op given =
    (bits : List Bool) → length bits ≡ old_net.inputs → answers (state_of old) op (data_on (val_of old_net bits) old.content) ≡ given
    → data_on (val_of net bits) new.content ≡ data_step (state_of old) op given (data_on (val_of old_net bits) old.content)
