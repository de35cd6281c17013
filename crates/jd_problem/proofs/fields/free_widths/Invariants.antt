use Rattle.std.proofs.Common.{◌≡◌, ◌+◌, ◌*◌, ◌≤◌, drop}
use Rattle.jd_model.specs.Problems.{free_widths}
use Rattle.jd_problem.proofs.fields.free_widths.Given as goal

-- what is left gives what all give
abbrev pub invariant-loop-field : goal.invariant-loop-field
invariant-loop-field l = record {
  same : l.count + free_widths (drop l.field-index l.fields) ≡ free_widths l.fields;
  bound : l.count ≤ 64 * l.field-index;
}
