-- Division of a number of two words.
use Rattle.std.specs.Prelude.{◌≡◌, ◌⊎◌, ℕ, pos, false}
use Rattle.hp_model.specs.declared.Mode.{Mode}
use Rattle.hp_model.specs.Words.{value, fits}
use Rattle.hp_model.specs.WordOperations.{double_quotient}

-- the divisor is zero, or the quotient doesn't fit the word
abbrev pub CannotDivide : ℕ → Mode → ℕ → ℕ → ℕ → Type 0
CannotDivide w mode upper lower x = (value w mode x ≡ pos 0) ⊎ (fits w mode (double_quotient w mode upper lower x) ≡ false)
