use Rattle.std.proofs.Common.{arith, refl, ◌≡◌, ◌∙◌, ap, sym, subst, ℕ, ◌+◌, ℤ, pos, List, [], ◌∷◌, ◌++◌, length, get_or, Some}
use Rattle.jd_logic.specs.Literals.{AreLiterals, AreHints}
use Rattle.jd_logic.specs.Derivation.{clause_of}
use Rattle.jd_propagate.specs.Quiet.{IsIn, IsWithin}
use Rattle.jd_propagate.proofs.Members.{false_is_not_true}
use Rattle.jd_prover.specs.Solving.{store_of, IsExplained}
use Rattle.jd_prover.proofs.Hinting.{explained-begun, hints-more}
use Rattle.jd_learn.proofs.Analysing.{stored-known, origin-small}
use Rattle.jd_learn.proofs.analysis.begin.Goals as goal

pub id_of-requires-clause-within : goal.id_of-requires-clause-within
id_of-requires-clause-within c = (origin-small c.args._clauses.now c.args.solver.now c.args.conflict c.requires.learning c.requires.small c.requires.in_clauses).0

pub id_of-requires-clause-small : goal.id_of-requires-clause-small
id_of-requires-clause-small c = (origin-small c.args._clauses.now c.args.solver.now c.args.conflict c.requires.learning c.requires.small c.requires.in_clauses).1

pub push_hint-requires : goal.push_hint-requires
push_hint-requires c =
    let o = (origin-small c.args._clauses.now c.args.solver.now c.args.conflict c.requires.learning c.requires.small c.requires.in_clauses).1 in
    omega (arith, c.id_of.ensures)

pub returns : goal.returns
returns c =
    let cs = c.args._clauses.now in
    let s = c.args.solver.now in
    let k = c.args.conflict in
    let g = c.requires.learning in
    let store = store_of cs s.lines.items in
    let marks = c.mark_clause.new.marks.items in
    let m = c.in_ok-mark_clause.ensures in
    let n = get_or s.origins.items k 0 in
    let o = origin-small cs s k g c.requires.small c.requires.in_clauses in
    let w = g.origins.within k c.requires.in_clauses in
    let S : List ℤ → Type 0 = λ xs. clause_of (n + 1) store ≡ Some xs in
    let stored = subst S (sym (g.origins.same k c.requires.in_clauses)) (stored-known cs s n w) in
    let b = explained-begun store marks [] s.trail (n + 1) (get_or s.long k []) stored c.requires.conflict
    (λ l is. m.marked l (let P : List ℤ → Type 0 = λ xs. IsIn xs l in subst P (sym c.clause-literals.ensures.clause) is)) in
    let e : c.push_hint.new.hints.items ≡ pos (n + 1) ∷ [] = c.in_ok-push_hint.ensures ∙ ap (λ (xs : List ℤ). xs ++ pos c.id_of.result ∷ []) c.new-2.ensures.items ∙ ap (λ (j : ℕ). pos j ∷ []) c.id_of.ensures in
    let none : AreHints [] = λ j d lt. absurd (omega arith) in
    let K : List ℤ → Type 0 = λ xs. IsExplained store s.trail xs marks c.push_hint.new.hints.items (length s.trail) in
    let H : List ℤ → Type 0 = λ xs. IsExplained store s.trail [] marks xs (length s.trail) in
    let kept = c.new-3.ensures.items in
    let W : List ℤ → Type 0 = λ xs. IsWithin xs s.trail in
    let L : List ℤ → Type 0 = λ xs. AreLiterals xs in
    record {
      explained = subst K (sym kept) (subst H (sym e) (record { leads = b; hints = hints-more [] (n + 1) none (omega arith) (let q = o.1 in omega arith) }));
      are_true = subst W (sym kept) (λ l is. absurd (false_is_not_true _ refl is));
      literals = subst L (sym kept) (λ j d lt. absurd (omega arith));
    }
