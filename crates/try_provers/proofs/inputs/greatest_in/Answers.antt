use Rattle.std.proofs.Common.{arith, rules, ◌∙◌, ◌≤◌, subst, ℤ, List, get_or, pos, w32, take, inl, inr}
use mir.Val.{SFits}
use Rattle.std.specs.Prelude.{nat_abs}
use Rattle.std.proofs.lemmas.Int.{to_z-of_z}
use Rattle.std.proofs.lemmas.List.{take_more}
use Rattle.jd_propagate.specs.Quiet.{IsIn}
use Rattle.jd_propagate.proofs.Members.{has-push_cases}
use Rattle.try_provers.proofs.inputs.greatest_in.Goals as goal

pub loop-l-preserved : goal.loop-l-preserved
loop-l-preserved c =
    let xs = c.args.clause.now in
    let i = c.loop-l.l-index in
    let l = get_or xs i (pos 0) in
    let f : SFits w32 l = search rules in
    let e = to_z-of_z w32 l f in
    let g = c.greater-greatest.ensures in
    record {
      kept = omega (arith, c.loop-l.invariant.kept, g.kept);
      all = λ m is. (let P : List ℤ → Type 0 = λ ys. IsIn ys m in
          let Q : ℤ → Type 0 = λ z. nat_abs z ≤ c.greater-greatest.result in
          elim (has-push_cases (take i xs) l m (subst P (take_more xs i (pos 0) c.loop-l-test.true) is)) [
            | inl h ↦ omega (arith, c.loop-l.invariant.all m h, g.kept)
            | inr h ↦ subst Q (e ∙ h) g.greater
          ]);
    }
