-- The words of a problem's line after the first.
use Rattle.std.specs.Prelude.{◌≡◌, ℕ, Bool, false, List, [], ◌∷◌, Option, Some, None, replicate}
use Rattle.jd_model.specs.ProblemLines.{parts_named, marked}
use Rattle.jd_model.specs.ProblemTexts.{has_twice}
use Rattle.jd_start.specs.declared.parts.Parts.{Parts}
use Rattle.jd_start.specs.Parts.{marks_of}

-- the word, where there is one
abbrev pub only_word : List (List ℕ) → Option (List ℕ)
only_word (word ∷ []) = Some word
only_word _ = None

-- words that name parts, and whether one is named twice
pub record ObservesParts (words : List (List ℕ)) (p : Parts) (twice : Bool) : Type 0 where
  pub places : List ℕ
  pub named : parts_named words ≡ Some places
  pub marks : marks_of p ≡ marked (replicate 13 false) places
  pub repeats : twice ≡ has_twice places
