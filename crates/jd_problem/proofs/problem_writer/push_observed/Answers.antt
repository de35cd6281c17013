use Rattle.std.proofs.Common.{◌∙◌, ap, ◌++◌, ◌∷◌, [], lit<}
use Rattle.std.specs.Prelude.{codes}
use Rattle.jd_model.specs.ProblemLines.{part_names}
use Rattle.jd_model.specs.ProblemWriter.{chosen}
use Rattle.jd_start.specs.Parts.{marks_of}
use Rattle.jd_start.specs.Written.{spaced}
use Rattle.jd_problem.proofs.PartLines.{line-added}
use Rattle.jd_problem.proofs.problem_writer.push_observed.Goals as goal

pub returns-clause-text : goal.returns-clause-text
returns-clause-text c =
    let names = chosen (marks_of c.args.observed.now) part_names in
    c.push.ensures.ascii (lit< tt)
    ∙ ap (λ text. text ++ 10 ∷ []) (c.push_names.ensures.text ∙ ap (λ text. text ++ spaced names) c.push_str.ensures.bytes)
    ∙ line-added c.args.text.now.bytes (codes "observe") names
