-- Comparing the observed parts of two states.
use Rattle.std.specs.Prelude.{ℕ, Bool, true, false, not, slice_index, slice_index_or, ◌&&◌, ◌||◌, ◌==◌, List, ◌∷◌, bytes_eq}
use Rattle.std.specs.Cmp.Lexicographic.{pointwise}
use Rattle.hp_model.specs.State.{Data}
use Rattle.jd_model.specs.ProblemWriter.{chosen}
use Rattle.jd_model.specs.Seen.{parts_of}

-- whether numbers are the same where they are marked
abbrev pub same_numbers : List Bool → List ℕ → List ℕ → Bool
same_numbers (mark ∷ marks) (m ∷ firsts) (n ∷ seconds) = (not mark || m == n) && same_numbers marks firsts seconds
same_numbers _ _ _ = true

-- whether the numbers at a place are the same, if they are marked
abbrev pub same_at : List Bool → List ℕ → List ℕ → ℕ → Bool
same_at marks firsts seconds place = not (slice_index_or marks place false) || slice_index firsts place == slice_index seconds place

-- whether the marked parts of two states are the same
abbrev pub same_parts : List Bool → Data → Data → Bool
same_parts marks d c = pointwise bytes_eq (chosen marks (parts_of d)) (chosen marks (parts_of c))
