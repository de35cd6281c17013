-- The lines of a text. LF ends a line, and what follows the last LF is a line if it has a byte.
use Rattle.std.specs.Prelude.{ℕ, zero, suc, Bool, true, false, ◌==◌, List, [], ◌∷◌}

-- one byte before some pieces, where the test says whether it ends a piece
abbrev pub put : Bool → ℕ → List (List ℕ) → List (List ℕ)
put true b ps = [] ∷ ps
put false b [] = (b ∷ []) ∷ []
put false b (p ∷ ps) = (b ∷ p) ∷ ps

-- the pieces of a text that certain bytes end. What follows the last such byte is a piece if it has a byte
abbrev pub pieces : (ℕ → Bool) → List ℕ → List (List ℕ)
pieces ends [] = []
pieces ends (b ∷ bytes) = put (ends b) b (pieces ends bytes)

abbrev pub lines_of : List ℕ → List (List ℕ)
lines_of bytes = pieces (λ b. b == 10) bytes

-- how many bytes so many lines take, each with its LF where there is one
abbrev pub bytes_of_lines : ℕ → List ℕ → ℕ
bytes_of_lines zero bytes = 0
bytes_of_lines (suc n) [] = 0
bytes_of_lines (suc n) (b ∷ bytes) =
    suc (elim (b == 10) [ true ↦ bytes_of_lines n bytes | false ↦ bytes_of_lines (suc n) bytes ])
