use Rattle.std.proofs.Common.{◌≡◌, ◌/◌, ◌%◌, ◌^◌, ◌<◌, ◌≤◌, length, arith, ap, ◌∙◌}
use Rattle.jd_vectors.specs.Number.{number}
use Rattle.jd_vectors.proofs.Numbers.{number-small, number-kept}
use Rattle.jd_muldiv.proofs.divider.div_lits.Goals as goal

pub returns-clause-number : goal.returns-clause-number
returns-clause-number g c = λ val s some.
    let short = c.trimmed-short.result in
    let same : number val short ≡ number val c.args.b.now = c.trimmed-short.ensures.number val in
    let d = c.in_ok-quotient.ensures in
    let more : 0 < number val short = omega arith in
    let e = d.number val s more in
    let left = number val c.in_ok-quotient.rest in
    let few : length c.in_ok-quotient.rest ≤ length c.args.b.now = omega (arith, d.remainder_length) in
    let kept : number val c.resized-2.result ≡ left =
    c.resized-2.ensures.number val ∙ ap (λ n. left % 2 ^ n) c.len-2.ensures.len ∙ number-kept left (length c.in_ok-quotient.rest) (length c.args.b.now) (number-small val c.in_ok-quotient.rest) few in
    (e.0 ∙ ap (λ n. number val c.args.a.now / n) same, kept ∙ e.1 ∙ ap (λ n. number val c.args.a.now % n) same)
