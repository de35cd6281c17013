use Rattle.std.proofs.Common.{◌≡◌, ◌+◌, ◌*◌, ◌≤◌, ◌++◌, map, drop}
use Rattle.arrayvec.specs.ArrayString.{array_string_len}
use Rattle.jd_text.specs.Words.{written}
use Rattle.jd_model.specs.ProblemWriter.{assume_line}
use Rattle.jd_problem.proofs.problem_writer.push_assumed.Given as goal

-- with the lines that are left the text is whole
abbrev pub invariant-loop-assume : goal.invariant-loop-assume
invariant-loop-assume l = record {
  text : l.text.bytes ++ written (map assume_line (drop l.assume-index l.assumed)) ≡ l.initial.text.bytes ++ written (map assume_line l.assumed);
  len : array_string_len l.text ≤ array_string_len l.initial.text + 29 * l.assume-index;
}
