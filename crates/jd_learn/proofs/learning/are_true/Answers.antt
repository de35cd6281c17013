use Rattle.std.proofs.Common.{◌∙◌, sym, ℤ, List, get_or, pos, w32, rules, subst, take, inl, inr}
use mir.Val.{SFits}
use Rattle.std.proofs.lemmas.Int.{to_z-of_z}
use Rattle.std.proofs.lemmas.List.{take_more}
use Rattle.jd_propagate.specs.Quiet.{IsIn}
use Rattle.jd_propagate.proofs.Members.{has-push_cases}
use Rattle.jd_learn.proofs.learning.are_true.Goals as goal

pub loop-l-preserved : goal.loop-l-preserved
loop-l-preserved c =
    let xs = c.args.literals.now in
    let i = c.loop-l.l-index in
    let l = get_or xs i (pos 0) in
    let f : SFits w32 l = search rules in
    let e = to_z-of_z w32 l f in
    λ m is. (let P : List ℤ → Type 0 = λ ys. IsIn ys m in
    let Q : ℤ → Type 0 = λ z. IsIn c.args.trail.now z in
    elim (has-push_cases (take i xs) l m (subst P (take_more xs i (pos 0) c.loop-l-test.true) is)) [
      | inl g ↦ c.loop-l.invariant m g
      | inr g ↦ subst Q (e ∙ g) (sym c.has.ensures ∙ c.if-not-has.false)
    ])
