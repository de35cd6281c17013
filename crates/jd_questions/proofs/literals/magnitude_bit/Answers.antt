use Rattle.std.proofs.Common.{◌∙◌, ap, sym}
use Rattle.hp_model.specs.Words.{bit}
use Rattle.jd_rows.proofs.SignedValues.{magnitude_is}
use Rattle.jd_questions.proofs.literals.magnitude_bit.Goals as goal

pub returns-clause-of : goal.returns-clause-of
returns-clause-of g c = c.bit_at.ensures.of _ c.in_ok-magnitude.ensures.of

pub returns-clause-meaning : goal.returns-clause-meaning
returns-clause-meaning g c = λ val s. c.bit_at.ensures.meaning val ∙ ap (λ n. bit n c.args.place) (sym (magnitude_is _ _ _ (c.in_ok-magnitude.ensures.value val s)))
