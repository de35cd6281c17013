-- What `spec` answers for the bytes of a spec: the judge's answer whether the routine gives what the formulas say, with no
-- problem before it.
use Rattle.std.specs.Prelude.{◌≡◌, ℕ, List, [], Result, Ok, Err}
use Rattle.jd_model.specs.declared.causes.ProblemCause.{ProblemCause}
use Rattle.jd_model.specs.Problems.{Problem}
use Rattle.jd_gives.specs.declared.gives.Give.{Give}
use Rattle.jd_gives.specs.Gives.{meets}
use Rattle.jd_spec_texts.specs.SpecTexts.{spec_of}
use Rattle.hp16c_commands.specs.Answers.{Answer, bad_line}
use Rattle.hp16c_commands.specs.Judging.{IsJudgementTo}

abbrev pub IsSpecified : Result (Problem × List Give) (ℕ × ProblemCause) → Answer → Type 0
IsSpecified (Ok (p, gives)) answer = IsJudgementTo p (meets p gives) [] answer
IsSpecified (Err (line, cause)) answer = answer ≡ bad_line line

abbrev pub SpecAnswers : List ℕ → Answer → Type 0
SpecAnswers bytes answer = IsSpecified (spec_of bytes) answer
