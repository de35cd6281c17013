-- What a reader of lines takes of a source, up to the line that makes it whole.
use Rattle.std.specs.Prelude.{◌≡◌, ℕ, ◌+◌, ◌≤◌, Bool, true, List, [], ◌++◌, length, drop, Option, Result, Ok, Err, IfOk}
use Rattle.jd_text.specs.Lines.{lines_of}
use Rattle.jd_text.specs.Words.{word_lines}
use Rattle.jd_text.specs.Readings.{read_until}
use Rattle.jd_lines.specs.SourceLines.{LineState, HasRead}

-- of a text: after how many lines it is whole, and what it is then and what comes after these lines; or its first bad line
abbrev pub IsReadTo : {S C : Type 0} → (S → Bool) → C → (S → List (List ℕ) → Result S C) → S → S → List ℕ → List ℕ → Result ℕ (ℕ × C) → Type 0
IsReadTo whole missing with_line start end text rest (Ok lines) =
    (read_until whole missing with_line 1 start (word_lines text) ≡ Ok (end, lines)) × (drop lines (lines_of text) ≡ lines_of rest)
IsReadTo whole missing with_line start end text rest (Err fault) = read_until whole missing with_line 1 start (word_lines text) ≡ Err fault

-- the same of what was held and read, and whatever follows, which is nothing where the end was met
pub record IsReadUntil {S C : Type 0} (whole : S → Bool) (missing : C) (with_line : S → List (List ℕ) → Result S C) (start : S) (old new : LineState) (before after : Option (List ℕ)) (answer : Result ℕ (ℕ × C)) (end : S) : Type 0 where
  pub bytes : List ℕ
  pub read : HasRead old new before after bytes
  pub few : IfOk answer (λ lines. lines ≤ length old.held + length bytes)
  pub says : (more : List ℕ) → (new.ended ≡ true → more ≡ []) → IsReadTo whole missing with_line start end (old.held ++ (bytes ++ more)) (new.held ++ more) answer
