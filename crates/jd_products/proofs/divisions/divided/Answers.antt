use Rattle.std.proofs.Common.{◌<◌, subst}
use Rattle.jd_circuit.proofs.Values.{solves_before}
use Rattle.jd_vectors.specs.Number.{number}
use Rattle.jd_rows.proofs.SignedValues.{magnitude_is}
use Rattle.jd_products.proofs.SignedProducts.{divided_value}
use Rattle.jd_products.proofs.divisions.divided.Goals as goal

pub returns-clause-value : goal.returns-clause-value
returns-clause-value g c = λ val s nonzero.
    let s2 = solves_before _ _ val c.in_ok-quotient.ensures.grows s in
    let s1 = solves_before _ _ val c.in_ok-sign.ensures.grows s2 in
    let s0 = solves_before _ _ val c.in_ok-sign_of_x.ensures.grows s1 in
    let x = c.in_ok-sign_of_x.ensures.value val s1 in
    let some : 0 < number val c.in_ok-sign_of_x.divisor = subst (λ n. 0 < n) (magnitude_is _ _ _ x) nonzero in
    let d = c.in_ok-quotient.ensures.number val s some in
    divided_value _ _ _ _ _ _ _ _ _ (c.in_ok-sign_of_y.ensures.value val s0) x (c.in_ok-sign.ensures.meaning val s2) some d.0 d.1
