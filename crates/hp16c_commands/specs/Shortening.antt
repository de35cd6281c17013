-- What `short` answers for the bytes of a problem: a shorter routine with its certificate, or what `judge` answers of the
-- source against itself.
use Rattle.std.specs.Prelude.{◌≡◌, ℕ, List, ◌++◌, Result, Ok, Err, ⊤}
use Rattle.jd_model.specs.Problems.{Problem}
use Rattle.jd_model.specs.ProblemWriter.{problem_text}
use Rattle.jd_trees.specs.declared.Node.{Node}
use Rattle.jd_trees.specs.CertWriter.{certificate_text}
use Rattle.jd_books.specs.Leaves.{Leaf}
use Rattle.jd_short.specs.declared.refusals.Refusals.{Refusals}
use Rattle.jd_short.specs.declared.rounds.Shortened.{Shortened}
use Rattle.jd_short.specs.declared.rounds.Shortened.TheVariants as shortened
use Rattle.jd_short.specs.Pairs.{pair}
use Rattle.jd_short.specs.Shortened.{IsShortened}
use Rattle.hp16c_commands.specs.declared.outcomes.Kept.TheVariants as kept
use Rattle.hp16c_commands.specs.declared.outcomes.Status.TheVariants.{Done}
use Rattle.hp16c_commands.specs.Answers.{Answer, bad_line}
use Rattle.hp16c_commands.specs.Judging.{judge_input, judgement}

-- the problem whose second routine came from its first by replacements, with the certificate. Why no further piece was replaced is kept
abbrev pub replaced : Problem → List Leaf → List Node → Refusals → Answer
replaced p book cert refusals = record {
  outcome = record { status = Done; kept = kept.Short p.second book cert refusals };
  text = problem_text p ++ certificate_text cert;
}

-- what is told of a shortening
abbrev pub shortening : Problem → Shortened → Answer
shortening p (shortened.Done routine book cert refusals) = replaced (pair p routine) book cert refusals
shortening p (shortened.Not judged) = judgement (problem_text (pair p p.first)) judged

-- what is told is a shortening that shows what it says
pub record IsShortening (p : Problem) (answer : Answer) : Type 0 where
  pub shortened : Shortened
  pub shown : IsShortened p shortened
  pub told : answer ≡ shortening p shortened

abbrev pub IsShortenedInput : Result (Problem × ⊤) ℕ → Answer → Type 0
IsShortenedInput (Ok input) answer = IsShortening input.0 answer
IsShortenedInput (Err line) answer = answer ≡ bad_line line

abbrev pub ShortAnswers : List ℕ → Answer → Type 0
ShortAnswers bytes answer = IsShortenedInput (judge_input bytes) answer
