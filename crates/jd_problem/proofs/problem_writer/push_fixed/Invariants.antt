use Rattle.std.proofs.Common.{◌≡◌, ◌+◌, ◌*◌, ◌≤◌, ◌++◌, drop}
use Rattle.arrayvec.specs.ArrayString.{array_string_len}
use Rattle.jd_text.specs.Words.{written}
use Rattle.jd_model.specs.ProblemLines.{part_names}
use Rattle.jd_model.specs.ProblemWriter.{fix_lines}
use Rattle.jd_start.specs.Parts.{values_of}
use Rattle.jd_problem.proofs.problem_writer.push_fixed.Given as goal

-- with the lines that are left the text is whole
abbrev pub invariant-loop-place : goal.invariant-loop-place
invariant-loop-place l = record {
  text : l.text.bytes ++ written (fix_lines (drop l.place part_names) (drop l.place (values_of l.fixed))) ≡ l.initial.text.bytes ++ written (fix_lines part_names (values_of l.fixed));
  len : array_string_len l.text ≤ array_string_len l.initial.text + 24 * l.place;
}
