-- Texts with a blank between two.
use Rattle.std.specs.Prelude.{ℕ, ◌==◌, if◌then◌else◌, List, ◌∷◌}

-- a text that stands after so many others
abbrev pub after : ℕ → List ℕ → List ℕ
after count text = if count == 0 then text else 32 ∷ text
