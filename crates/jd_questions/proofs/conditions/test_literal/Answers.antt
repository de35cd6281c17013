use Rattle.std.proofs.Common.{◌∙◌, not, ap, length}
use Rattle.hp_model.specs.Words.{value}
use Rattle.jd_circuit.specs.Meaning.{lit_value}
use Rattle.jd_circuit.proofs.SimpleGates.{value-opposite}
use Rattle.jd_vectors.specs.Number.{number}
use Rattle.jd_questions.proofs.SomeLiterals.{not_below}
use Rattle.jd_questions.proofs.conditions.test_literal.Goals as goal

pub returns-in_ok-below-in-AtMostY-clause-meaning : goal.returns-in_ok-below-in-AtMostY-clause-meaning
returns-in_ok-below-in-AtMostY-clause-meaning g c = λ val s.
    let w = length c.args.x.now in
    let x = value w c.args.mode (number val c.args.x.now) in
    let y = value w c.args.mode (number val c.args.y.now) in
    rw c.in-AtMostY.is (ap (lit_value val) c.opposite.ensures ∙ value-opposite val c.in_ok-below-in-AtMostY.below
    ∙ ap not (c.in_ok-below-in-AtMostY.ensures.meaning val s) ∙ not_below x y)

pub returns-in_ok-equal-in-NotY-clause-meaning : goal.returns-in_ok-equal-in-NotY-clause-meaning
returns-in_ok-equal-in-NotY-clause-meaning g c = λ val s.
    rw c.in-NotY.is (ap (lit_value val) c.opposite-in-NotY.ensures ∙ value-opposite val c.in_ok-equal-in-NotY.equal ∙ ap not (c.in_ok-equal-in-NotY.ensures.meaning val s))

pub returns-in_ok-zero-in-NotZero-clause-meaning : goal.returns-in_ok-zero-in-NotZero-clause-meaning
returns-in_ok-zero-in-NotZero-clause-meaning g c = λ val s.
    rw c.in-NotZero.is (ap (lit_value val) c.opposite-in-NotZero.ensures ∙ value-opposite val c.in_ok-zero-in-NotZero.zero ∙ ap not (c.in_ok-zero-in-NotZero.ensures.meaning val s))
