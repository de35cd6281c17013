use Rattle.std.proofs.Common.{◌≡◌, ◌+◌, ◌*◌, ◌^◌, length, ap, ◌∙◌}
use Rattle.jd_circuit.proofs.Values.{solves_before}
use Rattle.jd_vectors.specs.Number.{number}
use Rattle.jd_products.proofs.SignedRows.{double_at, double_remainder_row}
use Rattle.jd_products.proofs.doubles.double_remainder.Goals as goal

pub returns-clause-meaning : goal.returns-clause-meaning
returns-clause-meaning g c = λ val s nonzero.
    let s0 = solves_before _ _ val c.in_ok-pattern.ensures.grows s in
    let w = length c.args.x.now in
    let double : length c.double_word-y.result ≡ 2 * w = c.double_word-y.ensures.length ∙ ap (λ n. 2 * n) c.requires.lower_length in
    let words : number val c.double_word-y.result ≡ number val c.args.upper.now * 2 ^ w + number val c.args.lower.now =
    c.double_word-y.ensures.number val ∙ ap (λ n. number val c.args.upper.now * 2 ^ n + number val c.args.lower.now) c.requires.lower_length in
    let d = double_at _ w _ _ _ _ _ _ _ _ _ double words (c.in_ok-d.ensures.value val s0 nonzero) in
    rw c.plain.ensures (double_remainder_row _ _ _ _ _ _ _ _ _ _ _ c.len-size.ensures.len d (c.in_ok-pattern.ensures.number val s))
