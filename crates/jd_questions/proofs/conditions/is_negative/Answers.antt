use Rattle.std.proofs.Common.{◌∙◌, ap}
use Rattle.std.specs.Prelude.{int_lt}
use Rattle.hp_model.specs.Words.{value}
use Rattle.jd_vectors.specs.Number.{number}
use Rattle.jd_questions.proofs.SomeLiterals.{value_of_zero}
use Rattle.jd_questions.proofs.conditions.is_negative.Goals as goal

pub returns-clause-meaning : goal.returns-clause-meaning
returns-clause-meaning g c = λ val s.
    let mode = c.args.mode in
    let x = number val c.args.x.now in
    let size = c.constant-zero.ensures.length ∙ c.len.ensures.len in
    c.in_ok-l.ensures.meaning val s
    ∙ ap (λ w. int_lt (value w mode x) (value w mode (number val c.constant-zero.result))) size
    ∙ ap (int_lt (value _ mode x)) (ap (value _ mode) (c.constant-zero.ensures.number val) ∙ value_of_zero _ mode)

pub is_below-requires-clause-second : goal.is_below-requires-clause-second
is_below-requires-clause-second g c = c.constant-zero.ensures.inside _
