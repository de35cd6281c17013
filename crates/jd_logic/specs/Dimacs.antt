-- The grammar of DIMACS clauses.
use Rattle.std.specs.Prelude.{ℕ, zero, suc, ◌^◌, ℤ, nat_abs, true, false, ◌&&◌, nat_lt, List, [], ◌∷◌, ◌++◌, Option, Some, None, Result, Ok, Err, codes}
use Rattle.jd_logic.specs.Numerals.{number_of, integer_of, is_skipped}
use Rattle.jd_text.specs.Words.{words_of, is_text}
use Rattle.jd_text.specs.Lines.{bytes_of_lines, lines_of}

-- the greatest variable and the number of clauses
pub record Header : Type 0 where
  pub variables : ℕ
  pub clauses : ℕ

abbrev pub header_of : List (List ℕ) → Option Header
header_of (p ∷ cnf ∷ v ∷ c ∷ []) = elim (is_text (codes "p") p && is_text (codes "cnf") cnf) [
  | false ↦ None
  | true ↦ (elim (number_of v) [
    | None ↦ None
    | Some variables ↦ (elim (number_of c) [
      | None ↦ None
      | Some clauses ↦ (elim (nat_lt variables (2 ^ 31) && nat_lt clauses (2 ^ 31)) [
        | true ↦ Some (record { variables = variables; clauses = clauses })
        | false ↦ None
      ])
    ])
  ])
]
header_of words = None

-- clauses as far as they were read: how many are to come, those read, and the literals of one begun
pub record Reading : Type 0 where
  pub missing : ℕ
  pub clauses : List (List ℤ)
  pub begun : List ℤ

-- a number more, where a clause is still to come
abbrev pub with_number : ℕ → Reading → ℤ → Option Reading
with_number variables r z = elim r.missing [
  | zero ↦ None
  | suc n ↦ (elim (nat_abs z) [
    | zero ↦ Some (record { missing = n; clauses = r.clauses ++ r.begun ∷ []; begun = [] })
    | suc k ↦ (elim (nat_lt k variables) [ true ↦ Some (record r { begun = r.begun ++ z ∷ [] }) | false ↦ None ])
  ])
]

-- a line's words more
abbrev pub with_words : ℕ → Reading → List (List ℕ) → Option Reading
with_words variables r [] = Some r
with_words variables r (word ∷ words) = elim (integer_of word) [
  | None ↦ None
  | Some z ↦ (elim (with_number variables r z) [ None ↦ None | Some next ↦ with_words variables next words ])
]

-- the clauses, and how many lines they take
pub record Cnf : Type 0 where
  pub clauses : List (List ℤ)
  pub lines : ℕ

-- the clauses of lines that are counted from a number on, or the first bad line
abbrev pub clauses_of : ℕ → Reading → ℕ → List (List ℕ) → Result Cnf ℕ
clauses_of variables r n [] = Err n
clauses_of variables r n (line ∷ lines) = elim (is_skipped (words_of line)) [
  | true ↦ clauses_of variables r (suc n) lines
  | false ↦ (elim (with_words variables r (words_of line)) [
    | None ↦ Err n
    | Some next ↦ (elim next.missing [
      | zero ↦ Ok (record { clauses = next.clauses; lines = n })
      | suc k ↦ clauses_of variables next (suc n) lines
    ])
  ])
]

abbrev pub after_header : Header → ℕ → List (List ℕ) → Result Cnf ℕ
after_header h n lines = elim h.clauses [
  | zero ↦ Ok (record { clauses = []; lines = n })
  | suc k ↦ clauses_of h.variables (record { missing = suc k; clauses = []; begun = [] }) (suc n) lines
]

abbrev pub cnf_from : ℕ → List (List ℕ) → Result Cnf ℕ
cnf_from n [] = Err n
cnf_from n (line ∷ lines) = elim (is_skipped (words_of line)) [
  | true ↦ cnf_from (suc n) lines
  | false ↦ (elim (header_of (words_of line)) [ None ↦ Err n | Some h ↦ after_header h n lines ])
]

abbrev pub cnf_of : List (List ℕ) → Result Cnf ℕ
cnf_of lines = cnf_from 1 lines

-- the clauses that a text begins with, and how many bytes they take, or the first bad line
abbrev pub cnf_text : List ℕ → Result (List (List ℤ) × ℕ) ℕ
cnf_text bytes = elim (cnf_of (lines_of bytes)) [
  | Err n ↦ Err n
  | Ok cnf ↦ Ok (cnf.clauses, bytes_of_lines cnf.lines bytes)
]
