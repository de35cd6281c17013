use Rattle.std.proofs.Common.{◌≡◌, ◌+◌, ◌*◌, ◌^◌, length, length-append, length-drop, take, drop, arith, ap, ◌∙◌, sym, ◌∷◌, ◌++◌, []}
use Rattle.std.proofs.lemmas.List.{length-take-le}
use Rattle.jd_circuit.specs.Meaning.{lit_value}
use Rattle.jd_circuit.specs.Net.{variables}
use Rattle.jd_circuit.proofs.Values.{solves_before}
use Rattle.jd_vectors.specs.Number.{number, bit}
use Rattle.jd_vectors.proofs.Kept.{grows_trans, listed, all_of, front, back, Inside-append, Inside-push, Inside-take, Inside-drop}
use Rattle.jd_muldiv.proofs.Chains.{multiplied_turn}
use Rattle.jd_muldiv.proofs.multiplier.mul_lits.Goals as goal

pub gated-requires-clause-second : goal.gated-requires-clause-second
gated-requires-clause-second g c = listed _ _ c.args.b.now _ c.at.result c.loop-i.invariant.grows c.requires.second c.at.ensures

pub add_lits-requires-clause-first : goal.add_lits-requires-clause-first
add_lits-requires-clause-first g c =
    rw (c.part-high.ensures, back c.loop-i.total c.loop-i.i c.len-in-loop-i.result c.len-in-loop-i.ensures.len)
    (Inside-drop (variables c.gated.new.c) c.loop-i.i c.loop-i.total (all_of _ _ _ c.in_ok-row.ensures.grows c.loop-i.invariant.of))

pub loop-i-preserved : goal.loop-i-preserved
loop-i-preserved g c =
    let i = c.loop-i.invariant in
    let r = c.in_ok-row.ensures in
    let d = c.in_ok-sum.ensures in
    let k = c.loop-i.i in
    let total = c.loop-i.total in
    let on = grows_trans _ _ _ r.grows d.grows in
    let is_high : c.part-high.result ≡ drop k total = c.part-high.ensures ∙ back total k c.len-in-loop-i.result c.len-in-loop-i.ensures.len in
    let is_front : c.part-next.result ≡ take k total = c.part-next.ensures ∙ front total k in
    let is_more : c.push.new.self ≡ (take k total ++ c.in_ok-sum.sum) ++ c.in_ok-sum.carry ∷ [] =
    c.push.ensures ∙ ap (λ ls. ls ++ c.in_ok-sum.carry ∷ []) (c.append.ensures ∙ ap (λ ls. ls ++ c.in_ok-sum.sum) is_front) in
    let front_long : length (take k total) ≡ k = length-take-le k total (omega arith) in
    let high_long : length c.part-high.result ≡ length c.args.a.now = ap length is_high ∙ length-drop k total ∙ omega arith in
    let same : length c.in_ok-sum.sum ≡ length c.args.a.now = d.length ∙ high_long in
    record {
      grows = grows_trans _ _ _ i.grows on;
      digits = rw is_more (simp length-append (omega arith));
      of = rw is_more (Inside-push (variables c.add_lits.new.c) _ c.in_ok-sum.carry (Inside-append (variables c.add_lits.new.c) (take k total) c.in_ok-sum.sum (Inside-take (variables c.add_lits.new.c) k total (all_of _ _ _ on i.of)) d.sum) d.out);
      more = omega arith;
      number = λ val s.
          let s1 = solves_before _ _ val d.grows s in
          let s0 = solves_before _ _ val r.grows s1 in
          let added : number val c.in_ok-sum.sum + 2 ^ length c.args.a.now * bit (lit_value val c.in_ok-sum.carry) ≡ number val c.part-high.result + number val c.in_ok-row.row + 0 =
          ap (λ n. number val c.in_ok-sum.sum + 2 ^ n * bit (lit_value val c.in_ok-sum.carry)) (sym high_long) ∙ d.number val s in
          multiplied_turn val c.args.a.now c.args.b.now total c.part-high.result c.in_ok-row.row c.in_ok-sum.sum c.push.new.self c.at.result c.in_ok-sum.carry k
          c.at.ensures (omega arith) i.digits is_high is_more same added (r.number val s1) (i.number val s0);
    }
