-- The grammar of LRAT lines, from words to a line, or None outside the grammar.
use Rattle.std.specs.Prelude.{ℕ, zero, suc, ◌^◌, ℤ, pos, negsuc, nat_abs, Bool, true, false, ◌&&◌, nat_lt, List, [], ◌∷◌, map, Option, Some, None, Result, Ok, Err, codes}
use Rattle.jd_logic.specs.declared.Line.{Line}
use Rattle.jd_logic.specs.declared.Line.TheVariants.{Derive, Delete}
use Rattle.jd_logic.specs.Numerals.{integer_of, is_skipped}
use Rattle.jd_text.specs.Words.{words_of, is_text}

abbrev pub is_literal : ℤ → Bool
is_literal l = nat_lt (nat_abs l) (2 ^ 31)

abbrev pub is_hint : ℤ → Bool
is_hint h = nat_lt (nat_abs h) (2 ^ 63)

abbrev pub is_id : ℤ → Bool
is_id (pos n) = nat_lt 0 n && nat_lt n (2 ^ 63)
is_id (negsuc n) = false

-- numbers that a 0 ends, and the words after it
abbrev pub Ended : Type 0
Ended = Option (List ℤ × List (List ℕ))

abbrev pub with_number : ℤ → Ended → Ended
with_number z None = None
with_number z (Some e) = Some (z ∷ e.0, e.1)

abbrev pub to_zero : (ℤ → Bool) → List (List ℕ) → Ended
to_zero fits [] = None
to_zero fits (word ∷ words) = elim (integer_of word) [
  | None ↦ None
  | Some z ↦ (elim (nat_abs z) [
    | zero ↦ Some ([], words)
    | suc k ↦ (elim (fits z) [ true ↦ with_number z (to_zero fits words) | false ↦ None ])
  ])
]

-- numbers that a 0 ends, which is the last word
abbrev pub to_last_zero : (ℤ → Bool) → List (List ℕ) → Option (List ℤ)
to_last_zero fits words = elim (to_zero fits words) [
  | None ↦ None
  | Some e ↦ (elim e.1 [ [] ↦ Some e.0 | _ ↦ None ])
]

abbrev pub derivation_of : ℕ → List (List ℕ) → Option Line
derivation_of id words = elim (to_zero is_literal words) [
  | None ↦ None
  | Some e ↦ (elim (to_last_zero is_hint e.1) [ None ↦ None | Some hints ↦ Some (Derive id e.0 hints) ])
]

abbrev pub deletion_of : List (List ℕ) → Option Line
deletion_of words = elim (to_last_zero is_id words) [ None ↦ None | Some ids ↦ Some (Delete (map nat_abs ids)) ]

-- what follows the id: `d` and ids, or literals and hints
abbrev pub line_after : ℕ → List (List ℕ) → Option Line
line_after id [] = None
line_after id (word ∷ words) = elim (is_text (codes "d") word) [
  | true ↦ deletion_of words
  | false ↦ derivation_of id (word ∷ words)
]

abbrev pub line_of : List (List ℕ) → Option Line
line_of [] = None
line_of (word ∷ words) = elim (integer_of word) [
  | None ↦ None
  | Some id ↦ (elim (is_id id) [ true ↦ line_after (nat_abs id) words | false ↦ None ])
]

-- the LRAT lines of a text's lines, counted from a number on, or the number of the first bad one
abbrev pub with_line : Line → Result (List Line) ℕ → Result (List Line) ℕ
with_line line (Ok log) = Ok (line ∷ log)
with_line line (Err n) = Err n

abbrev pub log_of : ℕ → List (List ℕ) → Result (List Line) ℕ
log_of n [] = Ok []
log_of n (line ∷ lines) = elim (is_skipped (words_of line)) [
  | true ↦ log_of (suc n) lines
  | false ↦ (elim (line_of (words_of line)) [ None ↦ Err n | Some l ↦ with_line l (log_of (suc n) lines) ])
]
