use Rattle.std.proofs.Common.{◌≡◌, ◌+◌, ◌++◌, length, drop}
use Rattle.jd_model.specs.Problems.{free_widths, numbers_in}
use Rattle.jd_problem.proofs.fields.numbers_in.Given as goal

-- what is left gives what all give
abbrev pub invariant-loop-field : goal.invariant-loop-field
invariant-loop-field l = record {
  count : length l.numbers.items ≡ l.field-index;
  same : l.numbers.items ++ numbers_in (drop l.field-index l.fields) (drop l.at l.bits) ≡ numbers_in l.fields l.bits;
  widths : l.at + free_widths (drop l.field-index l.fields) ≡ free_widths l.fields;
}
