-- A problem and what follows it in one text, and what a replay of a start prints.
use Rattle.std.specs.Prelude.{ℕ, ◌+◌, Bool, true, false, List, ◌++◌, drop, codes, Result, Ok, Err}
use Rattle.hp_model.specs.State.{Data}
use Rattle.jd_text.specs.Lines.{bytes_of_lines}
use Rattle.jd_model.specs.Problems.{Problem}
use Rattle.jd_model.specs.ProblemTexts.{problem_of}
use Rattle.jd_model.specs.StartTexts.{start_of_text}
use Rattle.jd_model.specs.Seen.{seen, seen_line, agree}

-- what follows a problem's so many lines. The lines of a fault are counted over the whole text
abbrev pub after_lines : {A C : Type 0} → ℕ → Problem → Result A (ℕ × C) → Result (Problem × A) ℕ
after_lines before p (Ok a) = Ok (p, a)
after_lines before p (Err (line, cause)) = Err (before + line)

-- a problem and what is read of the bytes after its lines, or the number of the first bad line
abbrev pub problem_and : {A C : Type 0} → (Problem → List ℕ → Result A (ℕ × C)) → List ℕ → Result (Problem × A) ℕ
problem_and after bytes = elim (problem_of bytes) [
  | Err fault ↦ Err fault.0
  | Ok read ↦ after_lines read.1 read.0 (after read.0 (drop (bytes_of_lines read.1 bytes) bytes))
]

-- a problem and a start
abbrev pub replay_input : List ℕ → Result (Problem × Data) ℕ
replay_input bytes = problem_and start_of_text bytes

abbrev pub verdict : Bool → List ℕ
verdict true = codes "agree\n"
verdict false = codes "differ\n"

-- what a replay prints
abbrev pub replay_text : Problem → Data → List ℕ
replay_text p s =
    seen_line p (codes "first") (seen p p.first s) ++ seen_line p (codes "second") (seen p p.second s)
    ++ verdict (agree p s)
