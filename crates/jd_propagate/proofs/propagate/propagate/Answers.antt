use Rattle.std.proofs.Common.{◌≡◌, ◌∙◌, ap, sym, subst, arith, w32, rules, length, take, get_or, pos, to_z, of_z, ◌<◌, ℤ, List, false}
use Rattle.std.specs.Prelude.{is_some}
use mir.Val.{SFits}
use Rattle.std.proofs.lemmas.Int.{to_z-of_z}
use Rattle.jd_propagate.specs.Passing.{AreSettled}
use Rattle.jd_propagate.proofs.Passes.{passing-begun, all_quiet}
use Rattle.jd_propagate.proofs.Extensions.{take-beyond, within-next, next_seen, seen_none, extends-longer, extends-trans}
use Rattle.jd_propagate.proofs.Keeping.{keeps-again}
use Rattle.jd_propagate.proofs.propagate.propagate.Goals as goal

pub returns-then-head-len-clause-propagated : goal.returns-then-head-len-clause-propagated
returns-then-head-len-clause-propagated c =
    let cs = c.args.clauses.now in
    let t = c.trail.trail in
    let v = c.trail.invariant in
    let P : List ℤ → Type 0 = λ xs. AreSettled cs c.trail.firsts.items c.trail.seconds.items t xs in
    let s = subst P (take-beyond t c.trail.head (omega (arith, c.if-head-len.true, c.len.ensures))) v.settled in
    (v.watched, s, all_quiet cs c.trail.firsts.items c.trail.seconds.items c.trail.lists.items t v.watched s)

pub pass-requires-clause-passing : goal.pass-requires-clause-passing
pass-requires-clause-passing c =
    let t = c.trail.trail in
    let v = c.trail.invariant in
    let z = get_or c.literals.result.now c.trail.head (pos 0) in
    let f : SFits w32 z = search rules in
    let p = to_z w32 (of_z w32 z) in
    let is_p : p ≡ get_or t c.trail.head (pos 0) = to_z-of_z w32 z f ∙ ap (λ xs. get_or xs c.trail.head (pos 0)) c.literals.ensures.same in
    let lt : c.trail.head < length t = omega (arith, c.if-head-len.false, c.len.ensures) in
    passing-begun c.args.clauses.now c.trail.firsts.items c.trail.seconds.items c.trail.lists.items t (take c.trail.head t) p v.watched v.settled (within-next t c.trail.head p lt is_p)

pub trail-preserved : goal.trail-preserved
trail-preserved c =
    let cs = c.args.clauses.now in
    let t = c.trail.trail in
    let next = c.pass.new.trail in
    let fs = c.pass.new.firsts.items in
    let ss = c.pass.new.seconds.items in
    let z = get_or c.literals.result.now c.trail.head (pos 0) in
    let f : SFits w32 z = search rules in
    let p = to_z w32 (of_z w32 z) in
    let is_p : p ≡ get_or t c.trail.head (pos 0) = to_z-of_z w32 z f ∙ ap (λ xs. get_or xs c.trail.head (pos 0)) c.literals.ensures.same in
    let lt : c.trail.head < length t = omega (arith, c.if-head-len.false, c.len.ensures) in
    let e = c.in_ok-found.ensures in
    let none : is_some c.in_ok-found.found ≡ false = sym c.is_some.ensures ∙ c.if-is_some.false in
    let s = seen_none cs fs ss c.pass.new.lists.items next (take c.trail.head next) p c.in_ok-found.found none e.seen in
    let P : List ℤ → Type 0 = λ xs. AreSettled cs fs ss next xs in
    record {
      watched = s.0;
      settled = subst P (next_seen t next c.trail.head p lt e.grows is_p) (s.1);
      grown = extends-trans c.args.trail.now t next c.trail.invariant.grown e.grows;
      saved = keeps-again cs c.args.firsts.now.items c.args.seconds.now.items c.args.trail.now c.trail.firsts.items c.trail.seconds.items t fs ss next c.trail.invariant.grown c.trail.invariant.saved e.saved;
      reasons = λ store decisions assumed r. e.reasons store decisions assumed (c.trail.invariant.reasons store decisions assumed r);
      head_in = (let l = extends-longer t next c.trail.head lt e.grows in omega arith);
    }

pub returns-then-is_some-clause-saved : goal.returns-then-is_some-clause-saved
returns-then-is_some-clause-saved c =
    let v = c.trail.invariant in
    let n = c.pass.new in
    keeps-again c.args.clauses.now c.args.firsts.now.items c.args.seconds.now.items c.args.trail.now c.trail.firsts.items c.trail.seconds.items c.trail.trail n.firsts.items n.seconds.items n.trail
    v.grown v.saved c.in_ok-found.ensures.saved

pub returns-then-is_some-clause-reasons : goal.returns-then-is_some-clause-reasons
returns-then-is_some-clause-reasons c = λ store decisions assumed r. c.in_ok-found.ensures.reasons store decisions assumed (c.trail.invariant.reasons store decisions assumed r)
