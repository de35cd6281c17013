-- Words that an operation takes together.
use Rattle.std.specs.Prelude.{◌≡◌}
use Rattle.hp_words.specs.declared.word.Word.{Word}

-- of one size, and read in one mode
pub record AreAlike (y x : Word) : Type 0 where
  pub size : y.size.bits ≡ x.size.bits
  pub mode : y.mode ≡ x.mode
