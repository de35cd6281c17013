use Rattle.std.proofs.Common.{◌*◌, ap, sym, ◌∙◌}
use Rattle.jd_model.specs.Problems.{field, free_width, nibble_count}
use Rattle.jd_problem.specs.Problems.{problem_of}
use Rattle.jd_problem.proofs.FieldLists.{free_widths-replicate}
use Rattle.jd_problem.proofs.problem_fields.free_nibble_bits.Goals as goal

pub returns-clause-value : goal.returns-clause-value
returns-clause-value c =
    let p = problem_of c.args.problem.now in
    ap (λ n. n * c.from-2.result) (c.from.ensures ∙ c.nibble_count.ensures.value)
    ∙ ap (λ n. nibble_count p * n) (c.from-2.ensures ∙ c.free_width.ensures.value ∙ ap free_width c.nibble_field.ensures.value)
    ∙ sym (free_widths-replicate (nibble_count p) (field p 4 12))
