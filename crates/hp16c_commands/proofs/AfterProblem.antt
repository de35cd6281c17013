-- A problem and what is read after it, one after the other.
use Rattle.std.proofs.Common.{◌≡◌, ℕ, ◌+◌, List, drop, take, length, sym, ap, ◌∙◌}
use Rattle.std.specs.Prelude.{Result, Ok, Err, ⊤}
use Rattle.hp_model.specs.State.{Data}
use Rattle.jd_text.specs.Lines.{lines_of, bytes_of_lines}
use Rattle.jd_model.specs.declared.causes.ProblemCause.{ProblemCause}
use Rattle.jd_model.specs.Problems.{Problem}
use Rattle.jd_model.specs.ProblemTexts.{problem_of}
use Rattle.jd_model.specs.StartTexts.{start_of_text}
use Rattle.jd_model.specs.Replays.{after_lines, problem_and, replay_input}
use Rattle.jd_problem.specs.ProblemTexts.{IsProblemTo}
use Rattle.hp16c_commands.specs.Judging.{judge_input, nothing_more}

module _ {A C : Type 0} (after : Problem → List ℕ → Result A (ℕ × C)) where
  after_read : List ℕ → Result (Problem × ℕ) (ℕ × ProblemCause) → Result (Problem × A) ℕ
  after_read bytes read = elim read [
    | Err fault ↦ Err fault.0
    | Ok read ↦ after_lines read.1 read.0 (after read.0 (drop (bytes_of_lines read.1 bytes) bytes))
  ]

  -- what is read of a text whose problem ends after so many bytes
  input-after : (bytes : List ℕ) (p : Problem) (count : ℕ) (is : IsProblemTo bytes p count)
      → problem_and after bytes ≡ after_lines is.lines p (after p (drop count bytes))
  unfolding after_read
  input-after bytes p count is =
      ap (after_read bytes) is.read ∙ ap (λ n. after_lines is.lines p (after p (drop n bytes))) (sym is.size)

  read-after : (bytes : List ℕ) (p : Problem) (count : ℕ) (a : A) → IsProblemTo bytes p count → after p (drop count bytes) ≡ Ok a → problem_and after bytes ≡ Ok (p, a)
  read-after bytes p count a is read = input-after bytes p count is ∙ ap (after_lines is.lines p) read

  bad-after : (bytes : List ℕ) (p : Problem) (count line : ℕ) (cause : C) → IsProblemTo bytes p count → after p (drop count bytes) ≡ Err (line, cause)
      → problem_and after bytes ≡ Err (length (lines_of (take count bytes)) + line)
  bad-after bytes p count line cause is read =
      input-after bytes p count is ∙ ap (after_lines is.lines p) read ∙ ap (λ before. Err (before + line)) (sym is.counted)

  bad-problem : (bytes : List ℕ) (line : ℕ) (cause : ProblemCause) → problem_of bytes ≡ Err (line, cause) → problem_and after bytes ≡ Err line
  unfolding after_read
  bad-problem bytes line cause read = ap (after_read bytes) read

-- ---- a start

pub start-after : (bytes : List ℕ) (p : Problem) (count : ℕ) (s : Data) → IsProblemTo bytes p count → start_of_text p (drop count bytes) ≡ Ok s → replay_input bytes ≡ Ok (p, s)
start-after bytes p count s is read = read-after start_of_text bytes p count s is read

pub fault-after : (bytes : List ℕ) (p : Problem) (count line : ℕ) (cause : ProblemCause) → IsProblemTo bytes p count → start_of_text p (drop count bytes) ≡ Err (line, cause)
    → replay_input bytes ≡ Err (length (lines_of (take count bytes)) + line)
fault-after bytes p count line cause is read = bad-after start_of_text bytes p count line cause is read

pub problem-fault : (bytes : List ℕ) (line : ℕ) (cause : ProblemCause) → problem_of bytes ≡ Err (line, cause) → replay_input bytes ≡ Err line
problem-fault bytes line cause read = bad-problem start_of_text bytes line cause read

-- ---- nothing more

pub nothing-after : (bytes : List ℕ) (p : Problem) (count : ℕ) (done : ⊤) → IsProblemTo bytes p count → nothing_more p (drop count bytes) ≡ Ok done → judge_input bytes ≡ Ok (p, done)
nothing-after bytes p count done is read = read-after nothing_more bytes p count done is read

pub more-after : (bytes : List ℕ) (p : Problem) (count line : ℕ) (cause : ⊤) → IsProblemTo bytes p count → nothing_more p (drop count bytes) ≡ Err (line, cause)
    → judge_input bytes ≡ Err (length (lines_of (take count bytes)) + line)
more-after bytes p count line cause is read = bad-after nothing_more bytes p count line cause is read

pub judge-fault : (bytes : List ℕ) (line : ℕ) (cause : ProblemCause) → problem_of bytes ≡ Err (line, cause) → judge_input bytes ≡ Err line
judge-fault bytes line cause read = bad-problem nothing_more bytes line cause read
