-- The parts of a start by their numbers.
use Rattle.std.specs.Prelude.{ℕ, Bool, if◌then◌else◌, List, [], ◌∷◌, ◌++◌, map, Option, Some, None, option_map}
use Rattle.hp_model.specs.WordOperations.{bit_number}
use Rattle.jd_start.specs.declared.parts.Part.{Part}
use Rattle.jd_start.specs.declared.parts.Part.TheVariants.{X, Y, Z, T, L, I, F0, F1, F2, F3, C, G, M}
use Rattle.jd_start.specs.declared.parts.Parts.{Parts}
use Rattle.jd_start.specs.declared.parts.Fixed.{Fixed}

-- the number of a part
abbrev pub place_of : Part → ℕ
place_of X = 0
place_of Y = 1
place_of Z = 2
place_of T = 3
place_of L = 4
place_of I = 5
place_of F0 = 6
place_of F1 = 7
place_of F2 = 8
place_of F3 = 9
place_of C = 10
place_of G = 11
place_of M = 12

-- for each part whether it is one of them
abbrev pub marks_of : Parts → List Bool
marks_of p = p.x ∷ p.y ∷ p.z ∷ p.t ∷ p.l ∷ p.i ∷ (p.flags ++ p.memory ∷ [])

-- for each part the number at which it is fixed, if it is
abbrev pub values_of : Fixed → List (Option ℕ)
values_of f =
    f.x ∷ f.y ∷ f.z ∷ f.t ∷ f.l ∷ f.i
    ∷ (map (option_map bit_number) f.flags ++ (if f.memory then Some 0 else None) ∷ [])
