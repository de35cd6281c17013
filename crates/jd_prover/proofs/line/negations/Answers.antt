use Rattle.std.proofs.Common.{◌∙◌, ap, sym, subst, w32, rules, ℤ, List, pos, get_or, ◌++◌, ◌∷◌, [], take}
use Rattle.std.specs.Prelude.{neg_ℤ}
use mir.Val.{SFits}
use Rattle.std.proofs.lemmas.Int.{to_z-of_z}
use Rattle.std.proofs.lemmas.List.{take_more}
use Rattle.std.proofs.lemmas.List.Elements.{All-push}
use Rattle.jd_logic.specs.Literals.{IsLiteral, AreLiterals}
use Rattle.jd_propagate.specs.Levels.{negated}
use Rattle.jd_propagate.proofs.Lines.{negated-push}
use Rattle.jd_prover.proofs.line.negations.Goals as goal

pub loop-l-preserved : goal.loop-l-preserved
loop-l-preserved c =
    let xs = c.args.literals.now in
    let i = c.loop-l.l-index in
    let l = get_or xs i (pos 0) in
    let f : SFits w32 l = search rules in
    let n = c.negation.result in
    let fn : SFits w32 n = search rules in
    let e = to_z-of_z w32 n fn ∙ c.negation.ensures.same ∙ ap neg_ℤ (to_z-of_z w32 l f) in
    let p = c.in_ok-push.ensures.items in
    let v = c.loop-l.invariant in
    let P : List ℤ → Type 0 = λ ys. AreLiterals ys in
    let L : ℤ → Type 0 = λ z. IsLiteral z in
    record {
      same = p ∙ ap (λ (z : ℤ). c.loop-l.negations.items ++ z ∷ []) e ∙ ap (λ (ys : List ℤ). ys ++ neg_ℤ l ∷ []) v.same ∙ sym (negated-push (take i xs) l) ∙ ap negated (sym (take_more xs i (pos 0) c.loop-l-test.true));
      literals = subst P (sym p) (All-push IsLiteral c.loop-l.negations.items _ v.literals (subst L (sym (to_z-of_z w32 n fn)) c.negation.ensures.literal));
    }
