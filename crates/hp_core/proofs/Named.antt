-- A register that the index register names.
use Rattle.std.proofs.Common.{◌≡◌, ℕ, ◌≤◌, ◌<◌, Bool, false, nat_le, List, ◌∷◌, map, None, arith, refl}
use Rattle.std.proofs.lemmas.Bool.Decides.{nat_tests}
use Rattle.hp_model.specs.Words.{bit}
use Rattle.hp_model.specs.State.{Control, large_bytes, index_bits, registers}
use Rattle.hp_model.specs.Questions.{numbers_below}
use Rattle.hp_model.specs.ControlStep.{place_error, number_given}
use Rattle.hp_model.specs.Operations as ops
use Rattle.hp_model.proofs.Bits.{bits-spell, index-fits}

-- the answers that spell a register's number
abbrev pub register_spelled : Control → ℕ → List Bool
register_spelled c index = false ∷ map (bit index) (numbers_below (index_bits c.bytes))

-- below the count it is no error
pub no_error_through : (c : Control) (index : ℕ) → c.bytes ≤ large_bytes → index < registers c → place_error c ops.through_index (register_spelled c index) ≡ None
no_error_through c index bounded inside =
    let below : nat_le (registers c) index ≡ false = grind (arith, nat_tests) in
    let spells : number_given (register_spelled c index) ≡ index =
    bits-spell index (index_bits c.bytes) (index-fits c.bytes c.blocks c.size index bounded inside) in
    rw (spells, below) refl
