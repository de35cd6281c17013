use Rattle.std.proofs.Common.{length, sym, ap, ◌∙◌, subst}
use Rattle.jd_circuit.specs.Meaning.{lit_value}
use Rattle.jd_circuit.specs.Net.{variables}
use Rattle.jd_circuit.proofs.Values.{solves_before}
use Rattle.jd_vectors.specs.Number.{number}
use Rattle.hp_model.specs.WordOperations as rows
use Rattle.jd_rows.specs.Answers.{AnswerFits}
use Rattle.jd_rows.specs.Answers.{with_sign}
use Rattle.jd_products.proofs.products.product.Goals as goal

pub returns-clause-fits : goal.returns-clause-fits
returns-clause-fits g c = subst (λ w. AnswerFits (variables c.ranged.new.c) w c.in_ok-answer.answer) c.len.ensures.len c.in_ok-answer.ensures.fits

pub returns-clause-meaning : goal.returns-clause-meaning
returns-clause-meaning g c = λ val s.
    let s0 = solves_before _ _ val c.in_ok-answer.ensures.grows s in
    c.in_ok-answer.ensures.meaning val s
    ∙ ap (λ w. rows.ranged w c.args.mode (with_sign (lit_value val c.in_ok-sign.sign) (number val c.in_ok-sign.magnitude))) c.len.ensures.len
    ∙ ap (λ v. rows.ranged (length c.args.x.now) c.args.mode v) (sym (c.in_ok-sign.ensures.value val s0))
