-- The text of a start: the start, or the first bad line and its cause; and its writer.
use Rattle.std.specs.Prelude.{ℕ, suc, ◌+◌, ◌-◌, Bool, true, not, ◌&&◌, ◌||◌, ◌==◌, nat_lt, if◌then◌else◌, List, [], ◌∷◌, ◌++◌, length, take, map, reverse, replicate, codes, slice_index_or, Option, Some, None, Result, Ok, Err}
use Rattle.std.specs.Fmt.{digit_glyph}
use Rattle.hp_model.specs.WordOperations.{bit_number}
use Rattle.hp_model.specs.State.{Data}
use Rattle.jd_text.specs.Words.{is_text, written, word_lines}
use Rattle.jd_model.specs.declared.causes.ProblemCause.{ProblemCause}
use Rattle.jd_model.specs.declared.causes.ProblemCause.TheVariants.{Syntax, Range, Missing}
use Rattle.jd_text.specs.Digits.{digit_value, are_digits, hexadecimal_number, hexadecimal}
use Rattle.jd_text.specs.Readings.{read_lines}
use Rattle.jd_model.specs.Assumptions.{meets}
use Rattle.jd_model.specs.Problems.{Problem, Field, field, nibble_fields, are_in_fields, start_with}
use Rattle.jd_model.specs.ProblemLines.{part_names}

-- the first words of the lines in order
abbrev pub line_names : List (List ℕ)
line_names = codes "start" ∷ (take 6 part_names ++ codes "flags" ∷ codes "M" ∷ codes "end" ∷ [])

-- a start as far as it is read: how many lines, and the numbers that they gave
pub record StartReading : Type 0 where
  pub given : ℕ
  pub numbers : List ℕ

-- ---- what a line says after its first word: numbers, or None where it isn't well formed

abbrev pub no_numbers : List (List ℕ) → Option (List ℕ)
no_numbers [] = Some []
no_numbers _ = None

abbrev pub spelled_number : List (List ℕ) → Option (List ℕ)
spelled_number (word ∷ []) = elim (hexadecimal_number word) [ None ↦ None | Some n ↦ Some (n ∷ []) ]
spelled_number _ = None

-- each digit of a word, where they are all below a base
abbrev pub digits_below : ℕ → List ℕ → Option (List ℕ)
digits_below base word = if are_digits base word then Some (map digit_value word) else None

-- six digits, from flag 5 to flag 0
abbrev pub spelled_flags : List (List ℕ) → Option (List ℕ)
spelled_flags (word ∷ []) = if length word == 6 then digits_below 2 (reverse word) else None
spelled_flags _ = None

-- the nibbles from nibble 0 upwards, or none
abbrev pub spelled_nibbles : List (List ℕ) → Option (List ℕ)
spelled_nibbles [] = Some []
spelled_nibbles (word ∷ []) = digits_below 16 word
spelled_nibbles _ = None

-- what line k says, counted from 0
abbrev pub spelled : ℕ → List (List ℕ) → Option (List ℕ)
spelled k words =
    if k == 0 || k == 9 then no_numbers words else
    if nat_lt k 7 then spelled_number words else
    if k == 7 then spelled_flags words else spelled_nibbles words

-- ---- the lines in their order

-- the fields of line k
abbrev pub line_fields : Problem → ℕ → List Field
line_fields p k =
    if k == 0 || k == 9 then [] else
    if nat_lt k 6 then field p p.size (k - 1) ∷ [] else
    if k == 6 then field p 64 5 ∷ [] else
    if k == 7 then field p 1 6 ∷ field p 1 7 ∷ field p 1 8 ∷ field p 1 9 ∷ field p 1 10 ∷ field p 1 11 ∷ [] else
    nibble_fields p

-- numbers with those that the text leaves out at the end, which are zero
abbrev pub filled_up : ℕ → List ℕ → List ℕ
filled_up count ns = ns ++ replicate (count - length ns) 0

-- the last line is good where the numbers of all lines meet the assumptions
abbrev pub are_met : Problem → ℕ → List ℕ → Bool
are_met p k ns = not (k == 9) || meets p.assumed (start_with ns)

abbrev pub with_numbers : Problem → StartReading → Option (List ℕ) → Result StartReading ProblemCause
with_numbers p r None = Err Syntax
with_numbers p r (Some ns) =
    let fs = line_fields p r.given in
    let all = filled_up (length fs) ns in
    if are_in_fields fs all && are_met p r.given (r.numbers ++ all)
    then Ok (record { given = suc r.given; numbers = r.numbers ++ all }) else Err Range

-- a start with one more line, or why the line is bad. A line without words says nothing
abbrev pub with_start_line : Problem → StartReading → List (List ℕ) → Result StartReading ProblemCause
with_start_line p r [] = Ok r
with_start_line p r (word ∷ words) =
    if is_text (slice_index_or line_names r.given []) word then with_numbers p r (spelled r.given words) else Err Syntax

abbrev pub nothing_started : StartReading
nothing_started = record { given = 0; numbers = [] }

-- the start of a text, or the first bad line and its cause
abbrev pub start_of_text : Problem → List ℕ → Result Data (ℕ × ProblemCause)
start_of_text p text = elim (read_lines (with_start_line p) 1 nothing_started (word_lines text)) [
  | Err fault ↦ Err fault
  | Ok r ↦ if r.given == 10 then Ok (start_with r.numbers) else Err (suc (length (word_lines text)), Missing)
]

-- ---- the writer

abbrev pub with_nibble : ℕ → List ℕ → List ℕ
with_nibble n [] = if n == 0 then [] else digit_glyph true n ∷ []
with_nibble n (b ∷ text) = digit_glyph true n ∷ b ∷ text

-- the digits up to the last one that isn't zero
abbrev pub nibbles_text : List ℕ → List ℕ
nibbles_text [] = []
nibbles_text (n ∷ ns) = with_nibble n (nibbles_text ns)

abbrev pub after_m : List ℕ → List (List ℕ)
after_m [] = []
after_m (b ∷ text) = (b ∷ text) ∷ []

-- the words of `M`, which stands alone where all nibbles are zero
abbrev pub memory_words : List ℕ → List (List ℕ)
memory_words ns = codes "M" ∷ after_m (nibbles_text ns)

abbrev pub flags_text : List Bool → List ℕ
flags_text flags = reverse (map (λ b. 48 + bit_number b) flags)

-- the words of each line of a start
abbrev pub start_lines : Data → List (List (List ℕ))
start_lines s =
    (codes "start" ∷ []) ∷ (codes "X" ∷ hexadecimal s.x ∷ []) ∷ (codes "Y" ∷ hexadecimal s.y ∷ []) ∷ (codes "Z" ∷ hexadecimal s.z ∷ [])
    ∷ (codes "T" ∷ hexadecimal s.t ∷ []) ∷ (codes "L" ∷ hexadecimal s.last ∷ []) ∷ (codes "I" ∷ hexadecimal s.index ∷ [])
    ∷ (codes "flags" ∷ flags_text s.flags ∷ []) ∷ memory_words s.nibbles ∷ (codes "end" ∷ []) ∷ []

abbrev pub start_text : Data → List ℕ
start_text s = written (start_lines s)
