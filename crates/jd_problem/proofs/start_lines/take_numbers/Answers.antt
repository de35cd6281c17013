use Rattle.std.proofs.Common.{◌∙◌, sym, ap, true, false}
use Rattle.std.specs.Prelude.{Ok}
use Rattle.jd_problem.specs.Problems.{problem_of}
use Rattle.jd_problem.proofs.StartLines.{line-numbers}
use Rattle.jd_problem.proofs.start_lines.take_numbers.Goals as goal

pub returns-then-not-are_in_fields : goal.returns-then-not-are_in_fields
returns-then-not-are_in_fields c =
    line-numbers (problem_of c.args.problem.now) c.args.reading.now c.args.numbers.now c.requires.from c.requires.to c.requires.count
    c.as_slice-fields.result.now c.from-first.result (c.as_slice-fields.ensures ∙ c.content_fields-fields.ensures) (c.from-first.ensures ∙ c.given.ensures.value)
    false (sym c.are_in_fields.ensures ∙ c.if-not-are_in_fields.true)

pub returns : goal.returns
returns c =
    line-numbers (problem_of c.args.problem.now) c.args.reading.now c.args.numbers.now c.requires.from c.requires.to c.requires.count
    c.as_slice-fields.result.now c.from-first.result (c.as_slice-fields.ensures ∙ c.content_fields-fields.ensures) (c.from-first.ensures ∙ c.given.ensures.value)
    true (sym c.are_in_fields.ensures ∙ c.if-not-are_in_fields.false) ∙ sym (ap Ok c.take_numbers.ensures)
