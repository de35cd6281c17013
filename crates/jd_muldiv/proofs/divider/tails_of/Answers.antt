use Rattle.std.proofs.Common.{◌≡◌, ℕ, Bool, suc, ◌+◌, ◌-◌, ◌&&◌, length, drop, not, nat_lt, arith, sym, subst, refl}
use Rattle.jd_circuit.specs.Meaning.{lit_value}
use Rattle.jd_circuit.specs.Net.{IsOf, Solves, variables}
use Rattle.jd_circuit.proofs.SimpleGates.{value-opposite}
use Rattle.jd_circuit.proofs.Values.{solves_before}
use Rattle.jd_vectors.specs.Number.{number}
use Rattle.jd_vectors.proofs.Kept.{grows_trans, listed, all_of, Inside-cons, IsLit-opposite}
use Rattle.jd_muldiv.specs.Steps.{TellTails}
use Rattle.jd_muldiv.proofs.Chains.{next_tail, tails_turn}
use Rattle.jd_muldiv.proofs.divider.tails_of.Goals as goal

pub and-requires-clause-first : goal.and-requires-clause-first
and-requires-clause-first g c = rw c.opposite.ensures (IsLit-opposite _ c.at.result (listed _ _ c.args.b.now _ c.at.result c.loop-i.invariant.grows c.requires.of c.at.ensures))

pub loop-i-preserved : goal.loop-i-preserved
loop-i-preserved g c =
    let i = c.loop-i.invariant in
    let d = c.in_ok-neither.ensures in
    let b = c.args.b.now in
    let k = c.len-size.result - 1 - c.loop-i.i in
    let here : length b - (c.loop-i.i + 1) ≡ k = omega arith in
    let before : length b - c.loop-i.i ≡ suc k = omega arith in
    let of : IsOf c.and.new.self c.opposite-tail.result = rw c.opposite-tail.ensures (IsLit-opposite _ c.in_ok-neither.neither d.of) in
    let last : (val : ℕ → Bool) → Solves c.and.new.self val → lit_value val c.opposite-tail.result ≡ nat_lt 0 (number val (drop k b)) = λ val s.
    let said : lit_value val c.opposite-tail.result ≡ not (not (lit_value val c.at.result) && not (lit_value val c.loop-i.tail)) =
    rw (
      c.opposite-tail.ensures,
      value-opposite val c.in_ok-neither.neither,
      d.meaning val s,
      c.opposite.ensures,
      value-opposite val c.at.result,
      c.opposite-in-loop-i.ensures,
      value-opposite val c.loop-i.tail,
    )
    refl in
    next_tail val b k c.at.result c.loop-i.tail c.opposite-tail.result c.at.ensures
    (subst (λ n. lit_value val c.loop-i.tail ≡ nat_lt 0 (number val (drop n b))) before (i.last val (solves_before _ _ val d.grows s))) said in
    record {
      grows = grows_trans _ _ _ i.grows d.grows;
      digits = rw c.above-tails.ensures (omega arith);
      tails = rw c.above-tails.ensures (Inside-cons (variables c.and.new.self) c.opposite-tail.result c.loop-i.tails of (all_of _ _ _ d.grows i.tails));
      tail = of;
      more = omega arith;
      last = λ val s. subst (λ n. lit_value val c.opposite-tail.result ≡ nat_lt 0 (number val (drop n b))) (sym here) (last val s);
      number = λ val s.
          let s0 = solves_before _ _ val d.grows s in
          subst (λ n. TellTails val b n c.above-tails.result) (sym here)
          (rw c.above-tails.ensures (tails_turn val b k c.opposite-tail.result c.loop-i.tails (last val s) (subst (λ n. TellTails val b n c.loop-i.tails) before (i.number val s0))));
    }
