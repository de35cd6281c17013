use Rattle.std.proofs.Common.{◌∙◌, ap, ◌++◌}
use Rattle.jd_problem.proofs.Listings.{listing-lines}
use Rattle.jd_problem.proofs.problem_writer.push_routine.Goals as goal

pub returns-clause-text : goal.returns-clause-text
returns-clause-text c =
    c.push_str.ensures.bytes
    ∙ ap (λ text. c.args.text.now.bytes ++ text) (c.as_str.ensures.value ∙ c.list.ensures.text ∙ listing-lines c.args.routine.now c.list.ensures.routine)
