-- A start as far as it is read: how many lines, the numbers of the content, and the nibbles.
use Rattle.std.specs.Prelude.{◌≡◌, ℕ, ◌-◌, ◌<◌, ◌≤◌, nat_lt, if◌then◌else◌, List, [], ◌++◌, length, Option, Result}
use Rattle.jd_text.specs.Readings.{Takes}
use Rattle.jd_model.specs.declared.causes.ProblemCause.{ProblemCause}
use Rattle.jd_model.specs.StartTexts.{StartReading, with_numbers}
use Rattle.jd_problem.specs.declared.problem.Problem.{Problem}
use Rattle.jd_problem.specs.Problems.{problem_of}

abbrev pub reading_in : ℕ → List ℕ → List ℕ → StartReading
reading_in given content nibbles = record { given = given; numbers = content ++ nibbles }

-- how many numbers of the content so many lines give
abbrev pub content_given : ℕ → ℕ
content_given given = if nat_lt given 8 then given - 1 else 12

pub record IsReading (given : ℕ) (content nibbles : List ℕ) : Type 0 where
  pub few : given ≤ 10
  pub count : length content ≡ content_given given
  pub none : given < 9 → nibbles ≡ []

-- what a line says was taken, or refused
abbrev pub TakesNumbers : {T : Type 0} → Problem → StartReading → Option (List ℕ) → Result T ProblemCause → StartReading → Type 0
TakesNumbers problem old said result new = Takes (with_numbers (problem_of problem) old said) result new
