use Rattle.std.proofs.Common.{◌≡◌, ◌∙◌, ℤ, List, get_or, pos, w32, rules, subst, take, inl, inr, false, true}
use Rattle.std.specs.Prelude.{neg_ℤ}
use mir.Val.{SFits}
use Rattle.std.proofs.lemmas.Int.{to_z-of_z}
use Rattle.std.proofs.lemmas.List.{take_more}
use Rattle.jd_propagate.specs.Quiet.{IsIn}
use Rattle.jd_propagate.specs.Trails.{key_of}
use Rattle.jd_propagate.proofs.Members.{has-push_cases}
use Rattle.jd_prover.proofs.explain.mark_clause.Goals as goal

pub loop-l-preserved : goal.loop-l-preserved
loop-l-preserved c =
    let xs = c.args.clause.now in
    let i = c.loop-l.l-index in
    let l = get_or xs i (pos 0) in
    let f : SFits w32 l = search rules in
    let e = to_z-of_z w32 l f in
    let v = c.loop-l.invariant in
    let m = c.in_ok-mark.ensures in
    record {
      kept = λ k h. m.kept k (v.kept k h);
      marked = λ n is. (let P : List ℤ → Type 0 = λ ys. IsIn ys n in
          let Q : ℤ → Type 0 = λ z. get_or c.mark.new.marks.items (key_of (neg_ℤ z)) false ≡ true in
          elim (has-push_cases (take i xs) l n (subst P (take_more xs i (pos 0) c.loop-l-test.true) is)) [
            | inl g ↦ m.kept (key_of (neg_ℤ n)) (v.marked n g)
            | inr g ↦ subst Q (e ∙ g) m.marked
          ]);
    }
