use Rattle.jd_text.specs.Words.{is_text}
use Rattle.jd_model.specs.ProblemLines.{part_names}
use Rattle.jd_start.proofs.Searches.{FailBefore}
use Rattle.jd_start.proofs.parts.Part.named.Given as goal

-- no name before the place is the word
abbrev pub invariant-loop-place : goal.invariant-loop-place
invariant-loop-place l = FailBefore (λ name. is_text name l.word) part_names l.place
