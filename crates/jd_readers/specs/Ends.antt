-- What is read at the beginning of a text.
use Rattle.std.specs.Prelude.{◌≡◌, ℕ, ◌≤◌, Bool, List, length, take, Result, Ok}
use Rattle.jd_text.specs.Lines.{lines_of, bytes_of_lines}
use Rattle.jd_text.specs.Words.{word_lines}
use Rattle.jd_text.specs.Readings.{read_until}

-- the lines up to the one that makes it whole end after so many bytes
pub record IsReadTo {S C : Type 0} (whole : S → Bool) (missing : C) (with_line : S → List (List ℕ) → Result S C) (start : S) (text : List ℕ) (s : S) (end : ℕ) : Type 0 where
  pub lines : ℕ
  pub read : read_until whole missing with_line 1 start (word_lines text) ≡ Ok (s, lines)
  pub size : end ≡ bytes_of_lines lines text
  pub counted : length (lines_of (take end text)) ≡ lines
  pub within : end ≤ length text
