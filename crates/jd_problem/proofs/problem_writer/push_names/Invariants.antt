use Rattle.std.proofs.Common.{◌≡◌, ◌+◌, ◌*◌, ◌≤◌, ◌++◌, drop}
use Rattle.arrayvec.specs.ArrayString.{array_string_len}
use Rattle.jd_model.specs.ProblemLines.{part_names}
use Rattle.jd_model.specs.ProblemWriter.{chosen}
use Rattle.jd_start.specs.Written.{spaced}
use Rattle.jd_start.specs.Parts.{marks_of}
use Rattle.jd_problem.proofs.problem_writer.push_names.Given as goal

-- with the names that are left the text is whole
abbrev pub invariant-loop-place : goal.invariant-loop-place
invariant-loop-place l = record {
  text : l.text.bytes ++ spaced (chosen (drop l.place (marks_of l.parts)) (drop l.place part_names)) ≡ l.initial.text.bytes ++ spaced (chosen (marks_of l.parts) part_names);
  len : array_string_len l.text ≤ array_string_len l.initial.text + 3 * l.place;
}
