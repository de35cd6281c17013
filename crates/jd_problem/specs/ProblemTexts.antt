-- A problem at the beginning of a text.
use Rattle.std.specs.Prelude.{◌≡◌, ℕ, ◌≤◌, List, length, take, Ok}
use Rattle.jd_text.specs.Lines.{lines_of, bytes_of_lines}
use Rattle.jd_model.specs.Problems.{Problem}
use Rattle.jd_model.specs.ProblemTexts.{problem_of}

-- a problem's text ends after so many bytes
pub record IsProblemTo (bytes : List ℕ) (p : Problem) (count : ℕ) : Type 0 where
  pub lines : ℕ
  pub read : problem_of bytes ≡ Ok (p, lines)
  pub size : count ≡ bytes_of_lines lines bytes
  pub counted : length (lines_of (take count bytes)) ≡ lines
  pub within : count ≤ length bytes
