use Rattle.std.proofs.Common.{◌≡◌, ◌+◌, ◌*◌, ◌%◌, ◌^◌, ◌∷◌, take, arith, ap, ◌∙◌, sym}
use Rattle.jd_circuit.specs.Meaning.{lit_value}
use Rattle.jd_circuit.proofs.Values.{solves_before}
use Rattle.jd_vectors.specs.Number.{number, bit}
use Rattle.jd_vectors.proofs.Kept.{grows_trans}
use Rattle.jd_shifts.specs.Moves.{trues}
use Rattle.jd_shifts.proofs.Chains.{counted, one_literal}
use Rattle.jd_shifts.proofs.counts.ones.Goals as goal

pub loop-i-preserved : goal.loop-i-preserved
loop-i-preserved g c =
    let i = c.loop-i.invariant in
    let d = c.in_ok-sum.ensures in
    let a = c.args.a.now in
    let k = c.loop-i.i in
    record {
      grows = grows_trans _ _ _ i.grows d.grows;
      size = d.length ∙ i.size;
      of = d.sum;
      more = omega arith;
      number = λ val s.
          let before = i.number val (solves_before _ _ val d.grows s) in
          let sum = c.in_ok-sum.sum in
          let out = lit_value val c.in_ok-sum._carry in
          let first = lit_value val c.literal_or_false-first.result in
          let second = lit_value val c.literal_or_false-second.result in
          let one : number val c.resized-one.result ≡ bit first =
          c.resized-one.ensures.number val ∙ ap (λ ls. number val ls % 2 ^ 8) (c.above.ensures ∙ ap (λ ls. c.literal_or_false-first.result ∷ ls) c.new-in-loop-i.ensures) ∙ one_literal val c.literal_or_false-first.result in
          let added : number val sum + 2 ^ 8 * bit out ≡ number val c.loop-i.count + bit first + bit second =
          ap (λ n. number val sum + 2 ^ n * bit out) (sym i.size) ∙ d.number val s ∙ ap (λ n. number val c.loop-i.count + n + bit second) one in
          let r = counted (number val sum) (number val c.loop-i.count) (2 * k) first second out added before.1 (omega arith) in
          let next : 2 * (k + 1) ≡ 2 * k + 1 + 1 = omega arith in
          let two : trues val (take (2 * (k + 1)) a) ≡ trues val (take (2 * k) a) + bit first + bit second =
          ap (λ n. trues val (take n a)) next ∙ c.literal_or_false-second.ensures.value val ∙ ap (λ n. n + bit second) (c.literal_or_false-first.ensures.value val) in
          (r.0 ∙ ap (λ n. n + bit first + bit second) before.0 ∙ sym two, omega (arith, r.1));
    }
