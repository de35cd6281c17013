use Rattle.std.proofs.Common.{◌≡◌, drop}
use Rattle.jd_start.specs.Parts.{marks_of}
use Rattle.jd_agreement.specs.Agreement.{same_numbers}
use Rattle.jd_replay.proofs.agreement.same_numbers.Given as goal

abbrev pub invariant-loop-place : goal.invariant-loop-place
invariant-loop-place l =
    same_numbers (drop l.place (marks_of l.observed)) (drop l.place l.first) (drop l.place l.second) ≡ same_numbers (marks_of l.observed) l.first l.second
