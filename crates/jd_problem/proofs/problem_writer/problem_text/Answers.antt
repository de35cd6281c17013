use Rattle.std.proofs.Common.{map}
use Rattle.jd_model.specs.ProblemLines.{part_names}
use Rattle.jd_model.specs.ProblemWriter.{version, header_lines, fix_lines, assume_line, routine_lines}
use Rattle.jd_start.specs.Parts.{values_of}
use Rattle.jd_problem.specs.Problems.{problem_of}
use Rattle.jd_problem.proofs.ProblemRanges.{is-problem}
use Rattle.jd_problem.proofs.WholeTexts.{whole-problem}
use Rattle.jd_problem.proofs.problem_writer.problem_text.Goals as goal

pub returns-clause-ranges : goal.returns-clause-ranges
returns-clause-ranges c = is-problem c.args.problem.now c.push_routine.ensures.routine c.push_routine-2.ensures.routine

pub returns-clause-text : goal.returns-clause-text
returns-clause-text c =
    let p = c.args.problem.now in
    rw (
      c.push_str-3.ensures.bytes,
      c.push_routine-2.ensures.text,
      c.push_str-2.ensures.bytes,
      c.push_routine.ensures.text,
      c.push_str.ensures.bytes,
      c.push_assumed.ensures.text,
      c.as_slice.ensures.same,
      c.push_fixed.ensures.text,
      c.push_headers.ensures.text,
      c.new-text.ensures,
    )
    (whole-problem (header_lines (version (problem_of p)) (problem_of p)) (fix_lines part_names (values_of p.fixed)) (map assume_line p.assumed) (routine_lines p.first) (routine_lines p.second))
