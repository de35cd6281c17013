-- Paths as they are printed.
use Rattle.std.specs.Prelude.{ℕ, Bool, true, false, List, [], ◌∷◌, map, codes}

abbrev pub answer_code : Bool → ℕ
answer_code false = 48
answer_code true = 49

-- 0 for no and 1 for yes; a path without answers is a minus
abbrev pub path_text : List Bool → List ℕ
path_text [] = codes "-"
path_text (answer ∷ path) = map answer_code (answer ∷ path)
