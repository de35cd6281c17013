use Rattle.std.proofs.Common.{◌≡◌, ℕ, ◌/◌, ◌%◌, ◌^◌, ◌≤◌, length, ap, ◌∙◌, refl, arith}
use Rattle.jd_circuit.specs.Net.{variables}
use Rattle.jd_vectors.specs.Number.{number}
use Rattle.jd_products.proofs.doubles.double_multiply.Goals as goal
use Rattle.std.proofs.Common.{take, drop}
use Rattle.jd_vectors.proofs.Kept.{front, back, Inside-take, Inside-drop}
use Rattle.jd_vectors.proofs.Numbers.{number-cut}
use Rattle.jd_shifts.proofs.Chains.{number-high}

pair_of : (u l p m q : ℕ) → u ≡ p / m → l ≡ p % m → p ≡ q → ◌≡◌ {A = ℕ × ℕ} (u, l) (q / m, q % m)
pair_of u l p m q e f g = rw (e, f, g) refl

pub returns-clause-upper : goal.returns-clause-upper
returns-clause-upper g c =
    let p = c.in_ok-pattern.pattern in
    let e : c.part-upper.result ≡ drop c.len-size.result p = c.part-upper.ensures ∙ back p c.len-size.result c.len.result c.len.ensures.len in
    rw e (Inside-drop (variables c.product_of_double.new.c) c.len-size.result p c.in_ok-pattern.ensures.of)

pub returns-clause-lower : goal.returns-clause-lower
returns-clause-lower g c =
    let p = c.in_ok-pattern.pattern in
    let e : c.part-lower.result ≡ take c.len-size.result p = c.part-lower.ensures ∙ front p c.len-size.result in
    rw e (Inside-take (variables c.product_of_double.new.c) c.len-size.result p c.in_ok-pattern.ensures.of)

pub returns-clause-words : goal.returns-clause-words
returns-clause-words g c = λ val s.
    let p = c.in_ok-pattern.pattern in
    let w = length c.args.x.now in
    let within : w ≤ length p = omega (arith, c.in_ok-pattern.ensures.length) in
    let u : number val c.part-upper.result ≡ number val p / 2 ^ w =
    ap (number val) (c.part-upper.ensures ∙ back p c.len-size.result c.len.result c.len.ensures.len ∙ ap (λ k. drop k p) c.len-size.ensures.len) ∙ number-high val p w within in
    let l : number val c.part-lower.result ≡ number val p % 2 ^ w =
    ap (number val) (c.part-lower.ensures ∙ front p c.len-size.result ∙ ap (λ k. take k p) c.len-size.ensures.len) ∙ number-cut val p w within in
    pair_of _ _ _ _ _ u l (c.in_ok-pattern.ensures.number val s)
