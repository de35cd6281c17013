use Rattle.std.proofs.Common.{◌≡◌, suc, ◌+◌, ◌*◌, ◌-◌, ◌%◌, ◌^◌, ◌≤◌, ◌∷◌, length, drop, arith, ap, ◌∙◌, sym, subst}
use Rattle.std.proofs.lemmas.List.{length-take-le}
use Rattle.jd_circuit.specs.Meaning.{lit_value}
use Rattle.jd_circuit.specs.Net.{variables}
use Rattle.jd_circuit.proofs.Values.{solves_before}
use Rattle.jd_vectors.specs.Number.{number, bit}
use Rattle.jd_vectors.proofs.Kept.{grows_trans, listed, all_of, front, Inside-at, Inside-cons, Inside-take}
use Rattle.jd_vectors.proofs.Numbers.{number-kept, number-small}
use Rattle.jd_muldiv.proofs.Chains.{divided_turn, read_so_far}
use Rattle.jd_muldiv.proofs.Steps.{Divided, division_room, quotient, turns_room}
use Rattle.jd_muldiv.proofs.divider.long_division.Goals as goal

pub take_away-requires-clause-first : goal.take_away-requires-clause-first
take_away-requires-clause-first g c =
    let i = c.loop-i.invariant in
    c.resized-dividend.ensures.inside _
    (rw c.above.ensures (Inside-cons (variables c.loop-i.c) c.at.result c.loop-i.rest (listed _ _ c.args.a.now _ c.at.result i.grows c.requires.first c.at.ensures) i.rest))

pub take_away-requires-clause-second : goal.take_away-requires-clause-second
take_away-requires-clause-second g c =
    rw (c.part.ensures, front c.args.b.now c.min-read.result)
    (Inside-take (variables c.loop-i.c) c.min-read.result c.args.b.now (all_of _ _ _ c.loop-i.invariant.grows c.requires.second))

pub take_away-requires-clause-third : goal.take_away-requires-clause-third
take_away-requires-clause-third g c = Inside-at (variables c.loop-i.c) c.in_ok-tails.tails _ c.at-in-loop-i.result c.loop-i.invariant.tails c.at-in-loop-i.ensures

pub returns-in_err-fits-clause-more : goal.returns-in_err-fits-clause-more
returns-in_err-fits-clause-more g c =
    let i = c.loop-i.invariant in
    let n = length c.args.b.now in
    let inside : c.min-read.result ≤ n = omega arith in
    let long : length c.part.result ≡ c.min-read.result = ap length (c.part.ensures ∙ front c.args.b.now c.min-read.result) ∙ length-take-le c.min-read.result c.args.b.now inside in
    let room = division_room c.loop-i.i n (length c.args.c.now.gates) (length c.loop-i.c.gates) (length c.take_away.new.c.gates) i.first i.more (omega (arith, long, c.in_err-fits.ensures.more)) in
    omega (arith, room, turns_room (c.loop-i.i + 1) (length c.args.a.now) (n + 1) (n + 1) (omega arith) (omega arith))

pub loop-i-preserved : goal.loop-i-preserved
loop-i-preserved g c =
    let i = c.loop-i.invariant in
    let d = c.in_ok-fits.ensures in
    let a = c.args.a.now in
    let b = c.args.b.now in
    let read = c.min-read.result in
    let k = c.len-size.result - 1 - c.loop-i.i in
    let inside : read ≤ length b = omega arith in
    let long : length c.part.result ≡ read = ap length (c.part.ensures ∙ front b read) ∙ length-take-le read b inside in
    record {
      grows = grows_trans _ _ _ i.grows d.grows;
      tails = all_of _ _ _ d.grows i.tails;
      tells = λ val s. i.tells val (solves_before _ _ val d.grows s);
      quotient_length = rw c.above-quotient.ensures (omega arith);
      rest_length = omega (arith, d.length, long);
      quotient = rw c.above-quotient.ensures (Inside-cons (variables c.take_away.new.c) c.in_ok-fits.fits c.loop-i.quotient d.fits (all_of _ _ _ d.grows i.quotient));
      rest = d.rest;
      first = λ e. absurd (omega (arith, e));
      more = λ h. division_room c.loop-i.i (length b) (length c.args.c.now.gates) (length c.loop-i.c.gates) (length c.take_away.new.c.gates) i.first i.more (omega (arith, long, d.more));
      number = λ val s h.
          let s0 = solves_before _ _ val d.grows s in
          let here : length a - (c.loop-i.i + 1) ≡ k = omega arith in
          let before : length a - c.loop-i.i ≡ suc k = omega arith in
          let j = subst (λ n. Divided (number val (drop n a)) (number val b) (number val c.loop-i.quotient) (number val c.loop-i.rest)) before (i.number val s0 h) in
          let wide : number val c.resized-dividend.result ≡ bit (lit_value val c.at.result) + 2 * number val c.loop-i.rest =
          c.resized-dividend.ensures.number val ∙ ap (λ ls. number val ls % 2 ^ (read + 1)) c.above.ensures
          ∙ number-kept (bit (lit_value val c.at.result) + 2 * number val c.loop-i.rest) (suc (length c.loop-i.rest)) (read + 1) (number-small val (c.at.result ∷ c.loop-i.rest)) (omega arith) in
          let goes = read_so_far val b c.part.result c.loop-i.rest c.at.result c.at-in-loop-i.result c.loop-i.i read (number val c.resized-dividend.result)
          (omega arith) i.rest_length (c.part.ensures ∙ front b read) wide j.less (i.tells val s0 read c.at-in-loop-i.result c.at-in-loop-i.ensures) in
          subst (λ n. Divided (number val (drop n a)) (number val b) (number val c.above-quotient.result) (number val c.in_ok-fits.left)) (sym here)
          (divided_turn val a b c.loop-i.quotient c.loop-i.rest c.resized-dividend.result c.above-quotient.result c.in_ok-fits.left c.at.result c.in_ok-fits.fits k c.at.ensures wide c.above-quotient.ensures j (d.number val s (number val b) goes));
    }

pub returns-clause-number : goal.returns-clause-number
returns-clause-number g c = λ val s h.
    let whole : length c.args.a.now - c.loop-i.i ≡ 0 = omega arith in
    quotient (number val c.args.a.now) (number val c.args.b.now) (number val c.loop-i.quotient) (number val c.loop-i.rest)
    (subst (λ n. Divided (number val (drop n c.args.a.now)) (number val c.args.b.now) (number val c.loop-i.quotient) (number val c.loop-i.rest)) whole (c.loop-i.invariant.number val s h))
