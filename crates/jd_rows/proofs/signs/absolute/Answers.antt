use Rattle.std.proofs.Common.{length, sym, ap, ◌∙◌, subst}
use Rattle.jd_circuit.specs.Net.{variables}
use Rattle.jd_circuit.proofs.Values.{solves_before}
use Rattle.jd_vectors.specs.Number.{number}
use Rattle.hp_model.specs.WordOperations as rows
use Rattle.jd_rows.specs.Answers.{AnswerFits}
use Rattle.std.specs.Prelude.{pos}
use Rattle.jd_rows.proofs.SignedValues.{magnitude_is}
use Rattle.jd_rows.proofs.signs.absolute.Goals as goal

pub returns-clause-fits : goal.returns-clause-fits
returns-clause-fits g c = subst (λ w. AnswerFits (variables c.ranged.new.c) w c.in_ok-answer.answer) c.len.ensures.len c.in_ok-answer.ensures.fits

pub returns-clause-meaning : goal.returns-clause-meaning
returns-clause-meaning g c = λ val s.
    let s0 = solves_before _ _ val c.in_ok-answer.ensures.grows s in
    c.in_ok-answer.ensures.meaning val s
    ∙ ap (λ w. rows.ranged w c.args.mode (pos (number val c.in_ok-_sign.magnitude))) c.len.ensures.len
    ∙ ap (λ m. rows.ranged (length c.args.x.now) c.args.mode (pos m)) (sym (magnitude_is _ _ _ (c.in_ok-_sign.ensures.value val s0)))
