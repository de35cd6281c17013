use Rattle.std.proofs.Common.{◌∙◌, ap, arith, []}
use Rattle.std.specs.Prelude.{slice_index_or}
use Rattle.jd_model.specs.StartTexts.{line_names}
use Rattle.jd_problem.proofs.StartLines.{due}
use Rattle.jd_problem.proofs.start_lines.take_start_line.Goals as goal

pub take_words-requires-clause-line : goal.take_words-requires-clause-line
take_words-requires-clause-line c =
    due c.args.line.now c.in-Some.word.now c.line_name.result.now c.in-Some.at c.args.reading.now.given c.in-Some.ensures (omega arith)
    (c.line_name.ensures ∙ ap (λ k. slice_index_or line_names k []) c.given.ensures.value) c.ne.result c.ne.ensures c.if-ne.false
