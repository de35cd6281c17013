use Rattle.std.proofs.Common.{◌∙◌}
use Rattle.jd_model.specs.Problems.{field, nibble_count}
use Rattle.jd_problem.specs.Problems.{problem_of}
use Rattle.jd_problem.proofs.FieldLists.{other-count}
use Rattle.jd_problem.proofs.problem_fields.are_nibbles.Goals as goal

pub returns-else-nibbles-from : goal.returns-else-nibbles-from
returns-else-nibbles-from c =
    let p = problem_of c.args.problem.now in
    other-count (nibble_count p) c.from.result (field p 4 12) c.args.nibbles.now (c.from.ensures ∙ c.nibble_count.ensures.value) c.if-nibbles-from.false
