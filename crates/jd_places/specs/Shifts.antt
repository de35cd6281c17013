-- What comes in where a word is moved.
use Rattle.std.specs.Prelude.{ℕ, Bool, false}
use Rattle.hp_model.specs.declared.Mode.{Mode}
use Rattle.hp_model.specs.declared.Mode.TheVariants.{Unsigned}
use Rattle.hp_model.specs.WordOperations.{top_bit}

-- the bit that comes in at the top of an arithmetic shift
abbrev pub sign_of : ℕ → Mode → ℕ → Bool
sign_of w Unsigned x = false
sign_of w _ x = top_bit w x
