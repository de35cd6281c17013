use Rattle.std.proofs.Common.{◌==◌, ◌∙◌, ap}
use Rattle.std.specs.Prelude.{nat_abs}
use Rattle.hp_model.specs.Words.{value}
use Rattle.hp_control.specs.Controls.{control_of}
use Rattle.jd_circuit.proofs.Values.{solves_before}
use Rattle.jd_vectors.specs.Number.{number}
use Rattle.jd_content.specs.Meaning.{data_on}
use Rattle.jd_questions.proofs.SomeLiterals.{count_holds}
use Rattle.jd_questions.proofs.literals.count_is_zero.Goals as goal

pub returns-clause-meaning : goal.returns-clause-meaning
returns-clause-meaning g c = λ listing val s.
    let mode = c.args.control.now.mode in
    let s0 = solves_before _ _ val c.in_ok-l.ensures.grows s in
    c.in_ok-l.ensures.meaning val s
    ∙ ap (λ w. nat_abs (value w mode (number val c.in_ok-pattern.pattern)) == 0) c.in_ok-pattern.ensures.length
    ∙ ap (λ p. nat_abs (value c.args.control.now.size.bits mode p) == 0) (c.in_ok-pattern.ensures.number val s0)
    ∙ count_holds c.args.op (control_of c.args.control.now listing) (data_on val c.args.content.now)
