use Rattle.std.proofs.Common.{◌≡◌, length, drop, replicate}
use Rattle.jd_model.specs.Problems.{are_in_fields}
use Rattle.jd_problem.proofs.problem_fields.are_nibbles_in.Given as goal

-- what is left gives what all give
abbrev pub invariant-loop-nibble : goal.invariant-loop-nibble
invariant-loop-nibble l =
    let left = drop l.nibble-index l.nibbles in
    are_in_fields (replicate (length left) l.field) left ≡ are_in_fields (replicate (length l.nibbles) l.field) l.nibbles
