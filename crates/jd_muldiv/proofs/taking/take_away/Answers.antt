use Rattle.std.proofs.Common.{◌≡◌, ◌+◌, ◌*◌, ◌^◌, ◌<◌, length, take, arith, ap, ◌∙◌, sym, subst}
use Rattle.std.proofs.lemmas.List.{length-take-le}
use Rattle.jd_circuit.specs.Meaning.{lit_value}
use Rattle.jd_circuit.specs.Net.{variables}
use Rattle.jd_circuit.proofs.Values.{solves_before}
use Rattle.jd_circuit.proofs.SimpleGates.{value-opposite}
use Rattle.jd_vectors.specs.Number.{number, bit}
use Rattle.jd_vectors.proofs.Kept.{listed, all_of, front, grows_trans, Inside-take, IsLit-opposite}
use Rattle.jd_vectors.proofs.Numbers.{number-top, number-small}
use Rattle.jd_muldiv.specs.Steps.{GoesOn}
use Rattle.jd_muldiv.proofs.Steps.{taken}
use Rattle.jd_muldiv.proofs.taking.take_away.Goals as goal

pub add_lits-requires-clause-first : goal.add_lits-requires-clause-first
add_lits-requires-clause-first g c = rw (c.part-low.ensures, front c.args.from.now c.len-size.result) (Inside-take (variables c.args.c.now) c.len-size.result c.args.from.now c.requires.first)

pub and-requires-clause-first : goal.and-requires-clause-first
and-requires-clause-first g c = rw c.opposite.ensures (IsLit-opposite _ c.at-top.result (listed _ _ c.args.from.now _ c.at-top.result c.in_ok-less.ensures.grows c.requires.first c.at-top.ensures))

pub select-requires-clause-third : goal.select-requires-clause-third
select-requires-clause-third g c =
    rw (c.part-low.ensures, front c.args.from.now c.len-size.result)
    (all_of _ _ _ (grows_trans _ _ _ c.in_ok-less.ensures.grows (grows_trans _ _ _ c.in_ok-neither.ensures.grows c.in_ok-fits.ensures.grows)) (Inside-take (variables c.args.c.now) c.len-size.result c.args.from.now c.requires.first))

pub returns-clause-number : goal.returns-clause-number
returns-clause-number g c = λ val s full goes.
    let s3 = solves_before _ _ val c.in_ok-rest.ensures.grows s in
    let s2 = solves_before _ _ val c.in_ok-fits.ensures.grows s3 in
    let s1 = solves_before _ _ val c.in_ok-neither.ensures.grows s2 in
    let size = c.len-size.result in
    let from = c.args.from.now in
    let is_low : c.part-low.result ≡ take size from = c.part-low.ensures ∙ front from size in
    let long : length c.part-low.result ≡ size = ap length is_low ∙ length-take-le size from (omega arith) in
    let same : 2 ^ length c.args.other.now ≡ 2 ^ size = ap (λ n. 2 ^ n) (sym c.len-size.ensures.len) in
    let whole = number-top val from size c.at-top.result c.at-top.ensures (omega arith) in
    let split : number val c.part-low.result + 2 ^ size * bit (lit_value val c.at-top.result) ≡ number val from = ap (λ ls. number val ls + 2 ^ size * bit (lit_value val c.at-top.result)) is_low ∙ whole in
    let others : number val c.not_lits.result + number val c.args.other.now + 1 ≡ 2 ^ size = c.not_lits.ensures.number val ∙ same in
    let sum : number val c.in_ok-less.less + 2 ^ size * bit (lit_value val c.in_ok-less.carry) ≡ number val c.part-low.result + number val c.not_lits.result + 1 =
    ap (λ n. number val c.in_ok-less.less + 2 ^ n * bit (lit_value val c.in_ok-less.carry)) (sym long) ∙ c.in_ok-less.ensures.number val s1 in
    let low_small : number val c.part-low.result < 2 ^ size = omega (arith, number-small val c.part-low.result, ap (λ n. 2 ^ n) long) in
    let less_long : length c.in_ok-less.less ≡ size = c.in_ok-less.ensures.length ∙ long in
    let less_small : number val c.in_ok-less.less < 2 ^ size = omega (arith, number-small val c.in_ok-less.less, ap (λ n. 2 ^ n) less_long) in
    let goes_here = subst (λ P. GoesOn (number val c.args.other.now) P (lit_value val c.args.above) (number val from) full) same goes in
    rw (
      c.in_ok-rest.ensures.number val s,
      c.in_ok-fits.ensures.meaning val s3,
      c.opposite-3.ensures,
      value-opposite val c.in_ok-neither.neither,
      c.in_ok-neither.ensures.meaning val s2,
      c.opposite.ensures,
      value-opposite val c.at-top.result,
      c.opposite-2.ensures,
      value-opposite val c.in_ok-less.carry,
      c.opposite-4.ensures,
      value-opposite val c.args.above,
    )
    (taken (2 ^ size) (number val c.part-low.result) (number val c.not_lits.result) (number val from) (number val c.args.other.now) full (number val c.in_ok-less.less) (lit_value val c.at-top.result) (lit_value val c.in_ok-less.carry) (lit_value val c.args.above) split others sum low_small less_small goes_here)
