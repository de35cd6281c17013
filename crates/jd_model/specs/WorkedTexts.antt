-- Worked examples, each by computing it.
use Rattle.std.specs.Prelude.{◌≡◌, ℕ, List, [], ◌∷◌, ◌++◌, replicate, flat_map, codes, Ok, Err}
use Rattle.jd_model.specs.declared.causes.AsmCause.TheVariants.{UnknownWord, BadOperand, TooManyLines, FloatKey}
use Rattle.jd_model.specs.Assembly.{assembled, codes_text, listing, routine_of_codes}

-- so many lines of `+`
abbrev pub plus_lines : ℕ → List ℕ
plus_lines n = flat_map (λ line. line) (replicate n (codes "+\n"))

pub record WorkedTexts : Type 0 where
  pub two_lines : assembled (codes "LBL 0\nGTO 0\n") ≡ Ok (92 ∷ 108 ∷ [])
  pub two_codes : codes_text (92 ∷ 108 ∷ []) ≡ codes "5C 6C\n"
  pub two_codes_read : routine_of_codes (codes "5C 6C\n") ≡ Ok (92 ∷ 108 ∷ [])
  pub two_listed : listing (92 ∷ 108 ∷ []) ≡ codes "LBL 0\nGTO 0\n"
  pub separators : assembled (codes "\r\n\t LBL \t 0 \r\n\nGTO 0") ≡ Ok (92 ∷ 108 ∷ [])
  pub no_lines : assembled [] ≡ Ok []
  pub no_codes : codes_text [] ≡ codes "\n"
  pub codes_on_lines : routine_of_codes (codes "5c\n\n 6C") ≡ Ok (92 ∷ 108 ∷ [])
  pub float_key : assembled (codes "ENTER\n1/X\n") ≡ Err (2, FloatKey)
  pub float_key_and_more : assembled (codes "EEX 1\n") ≡ Err (1, FloatKey)
  pub unknown_word : assembled (codes "enter\n") ≡ Err (1, UnknownWord)
  pub missing_operand : assembled (codes "+\n\nSTO\n") ≡ Err (3, BadOperand)
  pub wrong_operand : assembled (codes "STO 10\n") ≡ Err (1, BadOperand)
  pub further_operand : assembled (codes "+ 1\n") ≡ Err (1, BadOperand)
  pub whole_routine : assembled (plus_lines 203) ≡ Ok (replicate 203 16)
  pub line_too_many : assembled (plus_lines 204) ≡ Err (204, TooManyLines)
  pub bad_line_203_lines_on : assembled (plus_lines 203 ++ codes "STO\n") ≡ Err (204, BadOperand)
  pub no_code : routine_of_codes (codes "E1\n") ≡ Err (1, tt)
  pub last_code : routine_of_codes (codes "E0\n") ≡ Ok (224 ∷ [])
  pub one_digit : routine_of_codes (codes "10\n1\n") ≡ Err (2, tt)
  pub three_digits : routine_of_codes (codes "010\n") ≡ Err (1, tt)
  pub no_digit : routine_of_codes (codes "1G\n") ≡ Err (1, tt)
