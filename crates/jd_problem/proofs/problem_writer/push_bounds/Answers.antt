use Rattle.jd_model.specs.ProblemWriter.{bound_lines}
use Rattle.jd_problem.specs.Problems.{problem_of}
use Rattle.jd_problem.proofs.WholeTexts.{lines-added}
use Rattle.jd_problem.proofs.problem_writer.push_bounds.Goals as goal

pub returns-clause-text : goal.returns-clause-text
returns-clause-text c =
    rw (
      c.push_observed.ensures.text,
      c.push_decimal_line-3.ensures.text,
      c.push_decimal_line-2.ensures.text,
      c.push_decimal_line.ensures.text,
      c.from-3.ensures,
      c.from-2.ensures,
      c.from.ensures,
    )
    (lines-added c.args.text.now.bytes (bound_lines (problem_of c.args.problem.now)))
