-- What `judge` answers for the bytes of a problem: a certificate, a start, or the limit that it met. Commands that ask the judge
-- something else answer with what is told here too.
use Rattle.std.specs.Prelude.{◌≡◌, ℕ, Bool, true, List, [], ◌∷◌, ◌++◌, length, codes, decimal, Result, Ok, Err, ⊤}
use Rattle.jd_text.specs.Words.{word_lines}
use Rattle.jd_text.specs.Readings.{read_lines}
use Rattle.jd_model.specs.Problems.{Problem, allows}
use Rattle.jd_model.specs.ProblemWriter.{problem_text}
use Rattle.jd_model.specs.Seen.{agree}
use Rattle.jd_model.specs.StartTexts.{start_text}
use Rattle.jd_model.specs.Replays.{problem_and}
use Rattle.jd_start.specs.Starts.{start_data}
use Rattle.jd_trees.specs.CertWriter.{certificate_text}
use Rattle.jd_books.specs.Leaves.{Claim}
use Rattle.jd_leaves.specs.Views.{leaf_of}
use Rattle.jd_judge.specs.declared.outcomes.Judged.{Judged}
use Rattle.jd_judge.specs.declared.outcomes.Judged.TheVariants as judges
use Rattle.jd_judge.specs.Judging.{IsJudgedTo}
use Rattle.hp16c_commands.specs.declared.outcomes.Kept.TheVariants as kept
use Rattle.hp16c_commands.specs.declared.outcomes.Status.TheVariants as status
use Rattle.hp16c_commands.specs.Answers.{Answer, bad_line}
use Rattle.hp16c_commands.specs.PathTexts.{path_text}

-- after a problem a line is bad where it has a word
abbrev pub empty_line : ⊤ → List (List ℕ) → Result ⊤ ⊤
empty_line _ [] = Ok tt
empty_line _ (word ∷ words) = Err tt

abbrev pub nothing_more : Problem → List ℕ → Result ⊤ (ℕ × ⊤)
nothing_more p rest = read_lines empty_line 1 tt (word_lines rest)

-- the problem that the bytes say, or the number of the first bad line
abbrev pub judge_input : List ℕ → Result (Problem × ⊤) ℕ
judge_input bytes = problem_and nothing_more bytes

abbrev pub unknown_text : List Bool → ℕ → List ℕ
unknown_text path lines = codes "unknown " ++ path_text path ++ codes " " ++ decimal lines ++ codes "\n"

abbrev pub paths_text : ℕ → List ℕ
paths_text count = codes "paths " ++ decimal count ++ codes "\n"

-- what is told of the judge's answer. A certificate and a start are written after a heading
abbrev pub judgement : List ℕ → Judged → Answer
judgement heading (judges.Equal book cert) = record {
  outcome = record { status = status.Done; kept = kept.Judged book cert };
  text = heading ++ certificate_text cert;
}
judgement heading (judges.Different start) = record {
  outcome = record { status = status.Different; kept = kept.Start start };
  text = heading ++ start_text (start_data start);
}
judgement heading (judges.Unknown leaf log) = record {
  outcome = record { status = status.Unknown; kept = kept.Log leaf log };
  text = unknown_text (leaf_of leaf).path (length log);
}
judgement heading (judges.TooManyPaths starts) = record {
  outcome = record { status = status.TooManyPaths; kept = kept.Starts starts };
  text = paths_text (length starts);
}

-- a start is told only where the problem allows it
abbrev pub IsTellable : Problem → Judged → Type 0
IsTellable p (judges.Different start) = allows p (start_data start) ≡ true
IsTellable p _ = ⊤

-- what is told is an answer of the judge that shows what it says of the claim
pub record IsJudgementTo (p : Problem) (claim : Claim) (heading : List ℕ) (answer : Answer) : Type 0 where
  pub judged : Judged
  pub shown : IsJudgedTo p claim judged
  pub told : answer ≡ judgement heading judged

-- whether both routines agree
abbrev pub IsJudgement : Problem → Answer → Type 0
IsJudgement p answer = IsJudgementTo p (agree p) (problem_text p) answer

abbrev pub IsJudged : Result (Problem × ⊤) ℕ → Answer → Type 0
IsJudged (Ok input) answer = IsJudgement input.0 answer
IsJudged (Err line) answer = answer ≡ bad_line line

abbrev pub JudgeAnswers : List ℕ → Answer → Type 0
JudgeAnswers bytes answer = IsJudged (judge_input bytes) answer
