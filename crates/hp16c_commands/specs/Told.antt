-- An answer as it is told: how the command ends, and the text.
use Rattle.std.specs.Prelude.{ℕ, List, [], Bool, true}
use Rattle.std.specs.String.{string_bytes}
use Rattle.jd_model.specs.Problems.{Problem, allows}
use Rattle.jd_model.specs.ProblemWriter.{problem_text}
use Rattle.jd_problem.specs.Problems.{problem_of}
use Rattle.jd_start.specs.Starts.{start_data}
use Rattle.jd_judge.specs.declared.outcomes.Judged.TheVariants.{Equal, Different}
use Rattle.hp16c_commands.specs.declared.told.Heading.{Heading}
use Rattle.hp16c_commands.specs.declared.told.Heading.TheVariants as headings
use Rattle.hp16c_commands.specs.declared.told.Told.{Told}
use Rattle.hp16c_commands.specs.declared.told.Told.TheVariants as variants
use Rattle.hp16c_commands.specs.Answers.{Answer}
use Rattle.hp16c_commands.specs.Judging.{judgement}
use Rattle.hp16c_commands.specs.Shortening.{replaced}

-- what stands before a certificate or a start of a problem
abbrev pub heading_text : Heading → Problem → List ℕ
heading_text headings.Problem p = problem_text p
heading_text headings.Empty p = []

abbrev pub answer_told : Told → Answer
answer_told (variants.Text outcome text) = record { outcome = outcome; text = string_bytes text }
answer_told (variants.Certificate heading problem book cert) = judgement (heading_text heading (problem_of problem)) (Equal book cert)
answer_told (variants.Start heading problem start) = judgement (heading_text heading (problem_of problem)) (Different start)
answer_told (variants.Short problem book cert refusals) = replaced (problem_of problem) book cert refusals

-- a start is written only where the problem allows it
abbrev pub is_writable : Told → Bool
is_writable (variants.Start heading problem start) = allows (problem_of problem) (start_data start)
is_writable _ = true
