use Rattle.jd_model.specs.ProblemWriter.{machine_lines}
use Rattle.jd_problem.specs.Problems.{problem_of}
use Rattle.jd_problem.proofs.WholeTexts.{lines-added}
use Rattle.jd_problem.proofs.problem_writer.push_machine.Goals as goal

pub returns-clause-text : goal.returns-clause-text
returns-clause-text c =
    rw (
      c.push_decimal_line-4.ensures.text,
      c.push_decimal_line-3.ensures.text,
      c.push_decimal_line-2.ensures.text,
      c.push_decimal_line.ensures.text,
      c.radix.ensures.value,
      c.mode_number.ensures,
      c.from.ensures,
      c.version_number.ensures,
    )
    (lines-added c.args.text.now.bytes (machine_lines c.args.version (problem_of c.args.problem.now)))
