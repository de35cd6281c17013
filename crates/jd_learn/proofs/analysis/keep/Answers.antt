use Rattle.std.proofs.Common.{◌∙◌, ap, sym, subst, ℤ, pos, List, [], ◌∷◌, ◌++◌, w32, get_or}
use Rattle.std.proofs.lemmas.Int.{to_z-of_z}
use Rattle.std.proofs.lemmas.List.Elements.{All-push}
use Rattle.jd_logic.specs.Literals.{IsLiteral, AreLiterals}
use Rattle.jd_propagate.specs.Quiet.{IsWithin}
use Rattle.jd_prover.specs.Solving.{store_of, IsExplained}
use Rattle.jd_learn.proofs.Analysing.{explained-kept, kept-true}
use Rattle.jd_learn.proofs.analysis.keep.Goals as goal

pub returns : goal.returns
returns c =
    let s = c.args._solver.now in
    let a = c.args.analysis.now in
    let at = c.args.at in
    let l = get_or s.trail at (pos 0) in
    let store = store_of c.args._clauses.now s.lines.items in
    let h = c.requires.analysed in
    let p = c.in_ok-push.ensures.items ∙ ap (λ (x : ℤ). a.kept.items ++ x ∷ []) (to_z-of_z w32 c.args.l c.ranges.l ∙ c.requires.same) in
    let E : List ℤ → Type 0 = λ xs. IsExplained store s.trail xs a.marks.items a.hints.items at in
    let W : List ℤ → Type 0 = λ xs. IsWithin xs s.trail in
    let L : List ℤ → Type 0 = λ xs. AreLiterals xs in
    let Z : ℤ → Type 0 = λ z. IsLiteral z in
    record {
      explained = subst E (sym p) (explained-kept store s.trail a.kept.items a.marks.items a.hints.items at c.requires.in_trail h.explained);
      are_true = subst W (sym p) (kept-true s.trail a.kept.items at c.requires.in_trail h.are_true);
      literals = subst L (sym p) (All-push IsLiteral a.kept.items l h.literals (subst Z c.requires.same c.requires.literal));
    }
