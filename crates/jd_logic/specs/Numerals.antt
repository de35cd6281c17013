-- Numerals, as LRAT and DIMACS have them, and lines that are skipped.
use Rattle.std.specs.Prelude.{ℕ, zero, suc, ◌+◌, ◌-◌, ◌*◌, ℤ, pos, negsuc, Bool, true, false, not, ◌&&◌, ◌==◌, nat_le, List, [], ◌∷◌, Option, Some, None}
use Rattle.std.specs.List.{list_all}

abbrev pub is_digit : ℕ → Bool
is_digit b = nat_le 48 b && nat_le b 57

abbrev pub number_from : ℕ → List ℕ → ℕ
number_from n [] = n
number_from n (b ∷ bytes) = number_from (10 * n + (b - 48)) bytes

-- digits without a leading zero
abbrev pub is_number : List ℕ → Bool
is_number [] = false
is_number (b ∷ []) = is_digit b
is_number (b ∷ bytes) = not (b == 48) && list_all is_digit (b ∷ bytes)

abbrev pub number_of : List ℕ → Option ℕ
number_of word = elim (is_number word) [ true ↦ Some (number_from 0 word) | false ↦ None ]

-- a minus and a number other than 0
abbrev pub negative_of : List ℕ → Option ℤ
negative_of word = elim (number_of word) [
  | None ↦ None
  | Some n ↦ (elim n [ zero ↦ None | suc k ↦ Some (negsuc k) ])
]

abbrev pub natural_of : List ℕ → Option ℤ
natural_of word = elim (number_of word) [ None ↦ None | Some n ↦ Some (pos n) ]

-- a number that may have a sign
abbrev pub integer_of : List ℕ → Option ℤ
integer_of [] = None
integer_of (b ∷ bytes) = elim (b == 45) [ true ↦ negative_of bytes | false ↦ natural_of (b ∷ bytes) ]

-- a line whose first word begins with c
abbrev pub is_comment : List (List ℕ) → Bool
is_comment ((b ∷ bytes) ∷ words) = b == 99
is_comment words = false

-- a line that is skipped: a comment, or one without words
abbrev pub is_skipped : List (List ℕ) → Bool
is_skipped [] = true
is_skipped (word ∷ words) = is_comment (word ∷ words)
