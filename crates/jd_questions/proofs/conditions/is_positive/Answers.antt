use Rattle.std.proofs.Common.{◌∙◌, ap, length}
use Rattle.std.specs.Prelude.{int_lt}
use Rattle.hp_model.specs.Words.{value}
use Rattle.jd_vectors.specs.Number.{number}
use Rattle.jd_questions.proofs.SomeLiterals.{value_of_zero}
use Rattle.jd_questions.proofs.conditions.is_positive.Goals as goal

pub returns-clause-meaning : goal.returns-clause-meaning
returns-clause-meaning g c = λ val s.
    let mode = c.args.mode in
    let w = length c.args.x.now in
    let x = number val c.args.x.now in
    let zero = ap (value w mode) (c.constant-zero.ensures.number val) ∙ value_of_zero w mode in
    c.in_ok-l.ensures.meaning val s ∙ ap (λ v. int_lt v (value w mode x)) zero

pub is_below-requires-clause-first : goal.is_below-requires-clause-first
is_below-requires-clause-first g c = c.constant-zero.ensures.inside _
