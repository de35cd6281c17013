-- Assembly texts and texts of codes. A routine is a list of codes.
use Rattle.std.specs.Prelude.{ℕ, ◌+◌, ◌*◌, ◌/◌, ◌%◌, ◌<◌, ◌≤◌, All, Bool, true, false, nat_lt, ◌&&◌, if◌then◌else◌, List, [], ◌∷◌, ◌++◌, length, map, flat_map, codes, is_some, Option, Some, None, Result, Ok, Err, ⊤}
use Rattle.std.specs.Fmt.{digit_glyph}
use Rattle.std.specs.List.{list_any, join_with_byte}
use Rattle.hp_model.specs.Lists.{first_from}
use Rattle.hp_model.specs.Codes.{operation_of}
use Rattle.hp_model.specs.Texts.{text_of}
use Rattle.jd_text.specs.Words.{words_of, is_text, word_lines, are_texts}
use Rattle.jd_model.specs.declared.causes.AsmCause.{AsmCause}
use Rattle.jd_model.specs.declared.causes.AsmCause.TheVariants.{UnknownWord, BadOperand, TooManyLines, FloatKey}
use Rattle.jd_text.specs.Digits.{digit_value}
use Rattle.jd_text.specs.Readings.{read_lines}

-- ---- assembly

abbrev pub text_of_code : ℕ → List ℕ
text_of_code code = text_of (operation_of code)

-- whether these words are the code's text, its words apart
abbrev pub is_code_text : List (List ℕ) → ℕ → Bool
is_code_text words code = are_texts (words_of (text_of_code code)) words

-- the code whose text has these words
abbrev pub code_of_words : List (List ℕ) → Option ℕ
code_of_words words = first_from (is_code_text words) 0 225

-- whether this is the first of some words
abbrev pub is_first : List ℕ → List (List ℕ) → Bool
is_first word [] = false
is_first word (first ∷ words) = is_text first word

abbrev pub begins_code : List ℕ → ℕ → Bool
begins_code word code = is_first word (words_of (text_of_code code))

-- whether an operation's text begins with this word
abbrev pub begins_text : List ℕ → Bool
begins_text word = is_some (first_from (begins_code word) 0 225)

-- the keys of the floating-point mode, which this machine hasn't
abbrev pub is_float_key : List ℕ → Bool
is_float_key word = list_any (λ key. is_text key word) (codes "FLOAT" ∷ codes "EEX" ∷ codes "1/X" ∷ codes "." ∷ [])

abbrev pub routine_limit : ℕ
routine_limit = 203

-- a list of codes that a routine may be
pub record IsRoutine (routine : List ℕ) : Type 0 where
  pub codes : All (λ code. code < 225) routine
  pub few : length routine ≤ routine_limit

-- the routine with the line's operation, or why the line is bad
abbrev pub with_operation : List ℕ → List (List ℕ) → Result (List ℕ) AsmCause
with_operation routine words = elim (code_of_words words) [
  | None ↦ Err BadOperand
  | Some code ↦ (elim (nat_lt (length routine) routine_limit) [ true ↦ Ok (routine ++ code ∷ []) | false ↦ Err TooManyLines ])
]

-- the same with the causes that the first word decides. A line without words adds nothing
abbrev pub with_line : List ℕ → List (List ℕ) → Result (List ℕ) AsmCause
with_line routine [] = Ok routine
with_line routine (word ∷ words) = elim (is_float_key word) [
  | true ↦ Err FloatKey
  | false ↦ (elim (begins_text word) [ true ↦ with_operation routine (word ∷ words) | false ↦ Err UnknownWord ])
]

-- the routine of an assembly text, or the first bad line and its cause
abbrev pub assembled : List ℕ → Result (List ℕ) (ℕ × AsmCause)
assembled text = read_lines with_line 1 [] (word_lines text)

-- the assembly text of a routine: a line for each operation
abbrev pub listing : List ℕ → List ℕ
listing routine = flat_map (λ code. text_of_code code ++ 10 ∷ []) routine

-- ---- codes

-- the code that two hexadecimal digits are
abbrev pub code_of_digits : ℕ → ℕ → Option ℕ
code_of_digits high low =
    if nat_lt high 16 && nat_lt low 16 && nat_lt (16 * high + low) 225 then Some (16 * high + low) else None

abbrev pub code_of_word : List ℕ → Option ℕ
code_of_word (high ∷ low ∷ []) = code_of_digits (digit_value high) (digit_value low)
code_of_word _ = None

abbrev pub with_code : List ℕ → List ℕ → Result (List ℕ) ⊤
with_code routine word = elim (code_of_word word) [
  | None ↦ Err tt
  | Some code ↦ (elim (nat_lt (length routine) routine_limit) [ true ↦ Ok (routine ++ code ∷ []) | false ↦ Err tt ])
]

abbrev pub with_codes : List ℕ → List (List ℕ) → Result (List ℕ) ⊤
with_codes routine [] = Ok routine
with_codes routine (word ∷ words) = elim (with_code routine word) [
  | Err bad ↦ Err bad
  | Ok more ↦ with_codes more words
]

-- the routine of a text of codes, or the first bad line
abbrev pub routine_of_codes : List ℕ → Result (List ℕ) (ℕ × ⊤)
routine_of_codes text = read_lines with_codes 1 [] (word_lines text)

abbrev pub code_text : ℕ → List ℕ
code_text code = digit_glyph true (code / 16) ∷ digit_glyph true (code % 16) ∷ []

-- the text of a routine's codes: one line, a blank between two codes
abbrev pub codes_text : List ℕ → List ℕ
codes_text routine = join_with_byte 32 (map code_text routine) ++ 10 ∷ []
