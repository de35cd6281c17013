use Rattle.std.proofs.Common.{ℤ, get_or, pos, w32, rules, sym, ◌∙◌, subst, take, inl, inr, List}
use mir.Val.{SFits}
use Rattle.std.proofs.lemmas.Int.{to_z-of_z}
use Rattle.std.proofs.lemmas.List.{take_more}
use Rattle.jd_propagate.specs.Quiet.{IsIn}
use Rattle.jd_propagate.proofs.Members.{has-push_cases}
use Rattle.jd_propagate.proofs.Watching.{has-at}
use Rattle.jd_propagate.proofs.attach.other_than.Goals as goal

pub returns-then-differ : goal.returns-then-differ
returns-then-differ c =
    let l = get_or c.args.clause.now c.loop-l.l-index (pos 0) in
    let f : SFits w32 l = search rules in
    let e = to_z-of_z w32 l f in
    let o = to_z-of_z w32 c.args.first c.ranges.first in
    let P : ℤ → Type 0 = λ z. IsIn c.args.clause.now z in
    (subst P (sym e) (has-at c.args.clause.now c.loop-l.l-index (pos 0) c.loop-l-test.true), λ q. c.if-differ.ensures (q ∙ sym o))

pub loop-l-preserved : goal.loop-l-preserved
loop-l-preserved c =
    let xs = c.args.clause.now in
    let i = c.loop-l.l-index in
    let l = get_or xs i (pos 0) in
    let f : SFits w32 l = search rules in
    let e = to_z-of_z w32 l f in
    λ m is. (let P : List ℤ → Type 0 = λ ys. IsIn ys m in
    elim (has-push_cases (take i xs) l m (subst P (take_more xs i (pos 0) c.loop-l-test.true) is)) [
      | inl g ↦ c.loop-l.invariant m g
      | inr g ↦ sym g ∙ sym e ∙ c.if-differ.ensures
    ])
