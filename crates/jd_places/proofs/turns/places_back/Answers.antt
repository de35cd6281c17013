use Rattle.std.proofs.Common.{◌≡◌, ◌+◌, ◌*◌, ◌^◌, ◌<◌, ap, ◌∙◌, sym, length, arith}
use Rattle.jd_circuit.specs.Meaning.{lit_value}
use Rattle.jd_circuit.specs.Net.{variables}
use Rattle.jd_vectors.specs.Number.{number, bit}
use Rattle.jd_vectors.proofs.Numbers.{number-small, number-kept}
use Rattle.jd_places.proofs.Turning.{back_is}
use Rattle.jd_places.proofs.turns.places_back.Goals as goal

pub add_lits-requires-clause-first : goal.add_lits-requires-clause-first
add_lits-requires-clause-first g c = c.constant-all.ensures.inside (variables c.args.c.now)

pub add_lits-requires-clause-second : goal.add_lits-requires-clause-second
add_lits-requires-clause-second g c = c.not_lits-other.ensures.inside _ (c.resized-wide.ensures.inside _ c.requires.of)

pub returns-clause-number : goal.returns-clause-number
returns-clause-number g c = λ val s few.
    let m = number val c.args.count.now in
    let by = c.in_ok-by.by in
    let out = lit_value val c.in_ok-by._carry in
    let negated = number val c.not_lits-other.result in
    let wide : number val c.resized-wide.result ≡ m = c.resized-wide.ensures.number val ∙ number-kept m (length c.args.count.now) 8 (number-small val c.args.count.now) c.requires.places in
    let others : negated + m + 1 ≡ 2 ^ 8 = ap (λ n. negated + n + 1) (sym wide) ∙ c.not_lits-other.ensures.number val ∙ ap (λ n. 2 ^ n) c.resized-wide.ensures.length in
    let added : number val by + 2 ^ 8 * bit out ≡ c.args.size + negated + 1 =
    ap (λ n. number val by + 2 ^ n * bit out) (sym c.constant-all.ensures.length) ∙ c.in_ok-by.ensures.number val s ∙ ap (λ n. n + negated + 1) (c.constant-all.ensures.number val) in
    let small : number val by < 2 ^ 8 = omega (arith, number-small val by, ap (λ n. 2 ^ n) (c.in_ok-by.ensures.length ∙ c.constant-all.ensures.length)) in
    back_is c.args.size m (number val by) negated out c.requires.word few added others small
