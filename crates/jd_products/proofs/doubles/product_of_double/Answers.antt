use Rattle.std.proofs.Common.{◌*◌, length, sym, ap, ◌∙◌}
use Rattle.jd_circuit.specs.Meaning.{lit_value}
use Rattle.jd_circuit.proofs.Values.{solves_before}
use Rattle.jd_vectors.specs.Number.{number}
use Rattle.hp_model.specs.Words.{low}
use Rattle.jd_rows.specs.Answers.{with_sign}
use Rattle.jd_products.proofs.doubles.product_of_double.Goals as goal

pub returns-clause-number : goal.returns-clause-number
returns-clause-number g c = λ val s.
    let s0 = solves_before _ _ val c.in_ok-pattern.ensures.grows s in
    c.in_ok-pattern.ensures.number val s
    ∙ ap (λ w. low w c.args.mode (with_sign (lit_value val c.in_ok-sign.sign) (number val c.in_ok-sign.magnitude))) (c.len.ensures.len ∙ c.in_ok-sign.ensures.length)
    ∙ ap (λ v. low (2 * length c.args.x.now) c.args.mode v) (sym (c.in_ok-sign.ensures.value val s0))
