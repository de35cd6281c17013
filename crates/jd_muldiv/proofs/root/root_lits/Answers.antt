use Rattle.std.proofs.Common.{◌≡◌, suc, ◌+◌, ◌-◌, ◌*◌, ◌%◌, ◌^◌, ◌≤◌, length, drop, arith, ap, ◌∙◌, sym, subst}
use Rattle.jd_circuit.specs.Net.{variables}
use Rattle.jd_circuit.proofs.Values.{solves_before}
use Rattle.jd_vectors.specs.Number.{number}
use Rattle.jd_vectors.proofs.Kept.{grows_trans, all_of, Inside-cons, Inside-at}
use Rattle.jd_vectors.proofs.Numbers.{number-small, number-kept}
use Rattle.jd_muldiv.specs.Steps.{Rooted}
use Rattle.jd_muldiv.proofs.Chains.{rooted_turn, rooted_end}
use Rattle.jd_muldiv.proofs.Steps.{ends}
use Rattle.jd_muldiv.proofs.root.root_lits.Goals as goal

pub take_away-requires-clause-first : goal.take_away-requires-clause-first
take_away-requires-clause-first g c =
    let i = c.loop-i.invariant in
    let n = variables c.loop-i.c in
    let even = c.resized-even.ensures.inside n (all_of _ _ _ i.grows c.requires.of) in
    rw (c.above-dividend.ensures, c.above-upper.ensures)
    (Inside-cons n c.at-in-loop-i.result _ (Inside-at n c.resized-even.result _ c.at-in-loop-i.result even c.at-in-loop-i.ensures)
    (Inside-cons n c.at.result c.loop-i.rest (Inside-at n c.resized-even.result _ c.at.result even c.at.ensures) i.rest))

pub loop-i-preserved : goal.loop-i-preserved
loop-i-preserved g c =
    let i = c.loop-i.invariant in
    let d = c.in_ok-fits.ensures in
    let half = c.div_ceil-half.result in
    let k = 2 * (half - 1 - c.loop-i.i) in
    record {
      grows = grows_trans _ _ _ i.grows d.grows;
      root_length = rw c.above-root.ensures (omega arith);
      rest_length = d.length ∙ rw (c.above-trial.ensures, c.above-doubled.ensures) (omega arith);
      root = rw c.above-root.ensures (Inside-cons (variables c.take_away.new.c) c.in_ok-fits.fits c.loop-i.root d.fits (all_of _ _ _ d.grows i.root));
      rest = d.rest;
      more = let long : length c.above-trial.result ≡ c.loop-i.i + 2 = rw (c.above-trial.ensures, c.above-doubled.ensures) (omega arith) in omega arith;
      number = λ val s.
          let s0 = solves_before _ _ val d.grows s in
          let here : 2 * (half - (c.loop-i.i + 1)) ≡ k = omega arith in
          let before : 2 * (half - c.loop-i.i) ≡ suc (suc k) = omega arith in
          let j = subst (λ n. Rooted (number val (drop n c.resized-even.result)) (number val c.loop-i.root) (number val c.loop-i.rest)) before (i.number val s0) in
          subst (λ n. Rooted (number val (drop n c.resized-even.result)) (number val c.above-root.result) (number val c.in_ok-fits.left)) (sym here)
          (rooted_turn val c.resized-even.result c.loop-i.root c.loop-i.rest c.above-upper.result c.above-dividend.result c.above-doubled.result c.above-trial.result c.above-root.result c.in_ok-fits.left
          c.at-in-loop-i.result c.at.result c.in_ok-fits.fits k c.at-in-loop-i.ensures c.at.ensures c.above-upper.ensures c.above-dividend.ensures c.above-doubled.ensures c.above-trial.ensures c.above-root.ensures j (λ room. d.number val s (number val c.above-trial.result) (ends (number val c.above-trial.result) (2 ^ length c.above-trial.result) (number val c.above-dividend.result) room)));
    }

pub returns-clause-number : goal.returns-clause-number
returns-clause-number g c = λ val s.
    let half = c.div_ceil-half.result in
    let a = c.args.a.now in
    let none : 2 * (half - c.loop-i.i) ≡ 0 = omega arith in
    let more : length a ≤ 2 * half = omega arith in
    let i = subst (λ n. Rooted (number val (drop n c.resized-even.result)) (number val c.loop-i.root) (number val c.loop-i.rest)) none (c.loop-i.invariant.number val s) in
    let kept : number val c.resized-even.result ≡ number val a = c.resized-even.ensures.number val ∙ number-kept (number val a) (length a) (2 * half) (number-small val a) more in
    let size : c.len-2.result ≡ length a = c.len-2.ensures.len in
    let size' : c.len-3.result ≡ length a = c.len-3.ensures.len in
    rooted_end (number val c.resized-even.result) (number val a) (number val c.loop-i.root) (number val c.loop-i.rest) (number val c.resized.result) (number val c.resized-2.result) (2 ^ length a)
    i kept (number-small val a)
    (c.resized.ensures.number val ∙ ap (λ n. number val c.loop-i.root % 2 ^ n) size)
    (c.resized-2.ensures.number val ∙ ap (λ n. number val c.loop-i.rest % 2 ^ n) size')
