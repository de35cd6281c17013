use Rattle.std.proofs.Common.{sym, ap, ◌∙◌}
use Rattle.jd_circuit.proofs.Values.{solves_before}
use Rattle.jd_vectors.specs.Number.{number}
use Rattle.hp_model.specs.Words.{value}
use Rattle.jd_products.proofs.SignedProducts.{product_value}
use Rattle.jd_products.proofs.products.signed_product.Goals as goal

pub returns-clause-value : goal.returns-clause-value
returns-clause-value g c = λ val s.
    let s2 = solves_before _ _ val c.in_ok-product.ensures.grows s in
    let s1 = solves_before _ _ val c.in_ok-sign.ensures.grows s2 in
    let s0 = solves_before _ _ val c.in_ok-sign_of_x.ensures.grows s1 in
    product_value _ _ _ _ _ _ _ _
    (ap (λ w. value w c.args.mode (number val c.args.y.now)) (sym c.requires.length) ∙ c.in_ok-sign_of_y.ensures.value val s0)
    (c.in_ok-sign_of_x.ensures.value val s1) (c.in_ok-sign.ensures.meaning val s2) (c.in_ok-product.ensures.number val s)
