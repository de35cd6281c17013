-- Where the register that a place names stands among so many nibbles, and which answers spell a word size.
use Rattle.std.specs.Prelude.{◌≡◌, ℕ, ◌/◌, ◌<◌, ◌≤◌, Bool, false, List, length}
use Rattle.hp_model.specs.Operations.{Place}
use Rattle.hp_model.specs.Operations as ops
use Rattle.hp_model.specs.State.{width}
use Rattle.hp_model.specs.ControlStep.{answer_at, number_given}

-- the answers say that the index register names one of the registers
pub record NamesRegister (w nibbles : ℕ) (given : List Bool) : Type 0 where
  pub first : answer_at 0 given ≡ false
  pub below : number_given given < nibbles / width w

-- the place is the index register, or a register among so many nibbles at words of w bits
abbrev pub IsInside : ℕ → ℕ → Place → List Bool → Type 0
IsInside w nibbles (ops.register r) given = r < nibbles / width w
IsInside w nibbles ops.index_register given = Unit {0}
IsInside w nibbles ops.through_index given = NamesRegister w nibbles given

-- the answers spell a word size, or 0 in place of 64
pub record IsSize (given : List Bool) : Type 0 where
  pub few : length given ≤ 8
  pub first : answer_at 0 given ≡ false
  pub small : number_given given ≤ 64
