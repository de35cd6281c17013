use Rattle.std.proofs.Common.{◌≡◌, drop}
use Rattle.jd_model.specs.Problems.{are_in_fields}
use Rattle.jd_problem.proofs.fields.are_in_fields.Given as goal

-- what is left gives what all give
abbrev pub invariant-loop-i : goal.invariant-loop-i
invariant-loop-i l = are_in_fields (drop l.i l.fields) (drop l.i l.numbers) ≡ are_in_fields l.fields l.numbers
