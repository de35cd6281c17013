use Rattle.std.proofs.Common.{◌≡◌, ◌+◌, ◌-◌, ◌≤◌, ◌++◌, length, drop, replicate}
use Rattle.jd_model.specs.Problems.{free_widths, numbers_in}
use Rattle.jd_problem.proofs.problem_fields.read_nibbles.Given as goal

-- what is left gives what all give
abbrev pub invariant-loop : goal.invariant-loop
invariant-loop l =
    let left = replicate (l.count - l.counter) l.field in
    record {
      count : length l.nibbles ≡ l.counter;
      room : l.at + free_widths left ≤ length l.bits;
      same : l.nibbles ++ numbers_in left (drop l.at l.bits) ≡ numbers_in (replicate l.count l.field) (drop l.start l.bits);
    }
