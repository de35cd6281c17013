use Rattle.std.proofs.Common.{◌≡◌, ◌∙◌, ap, sym, subst, arith, rules, ℕ, ◌+◌, ℤ, pos, List, [], ◌∷◌, ◌++◌}
use Rattle.jd_logic.specs.Literals.{AreHints}
use Rattle.jd_propagate.specs.Quiet.{IsIn}
use Rattle.jd_propagate.specs.Hints.{LeadsToConflict}
use Rattle.jd_propagate.specs.Passing.{clause_of}
use Rattle.jd_propagate.specs.Levels.{clauses_of}
use Rattle.jd_prover.specs.Solving.{IsNeeded, IsExplained, store_of}
use Rattle.jd_prover.proofs.Stored.{stored-at, stored-more}
use Rattle.jd_prover.proofs.Hinting.{explained-begun, hints-more}
use Rattle.jd_prover.proofs.explain.explain.Goals as goal

pub trail-init : goal.trail-init
trail-init c =
    let cs = c.args.clauses.now in
    let s = c.args.solver.now in
    let k = c.args.conflict in
    let store = store_of cs s.lines.items in
    let marks = c.mark_clause.new.marks.items in
    let e : c.push_hint.new.hints.items ≡ pos (k + 1) ∷ [] = c.in_ok-push_hint.ensures ∙ ap (λ (xs : List ℤ). xs ++ pos (k + 1) ∷ []) c.new-hints.ensures.items in
    let m = c.in_ok-mark_clause.ensures in
    let stored = stored-more cs (clauses_of s.lines.items) 1 (k + 1) (clause_of cs k) (stored-at cs 1 k (k + 1) (omega arith) c.requires.in_clauses) in
    let b = explained-begun store marks s.decisions.items s.trail (k + 1) (clause_of cs k) stored c.requires.conflict
    (λ l is. m.marked l (let P : List ℤ → Type 0 = λ xs. IsIn xs l in subst P (sym c.clause.ensures.clause) is)) in
    let N : ℕ → Type 0 = λ n. LeadsToConflict store s.trail (IsNeeded marks s.decisions.items s.trail n) (pos (k + 1) ∷ []) in
    let H : List ℤ → Type 0 = λ xs. AreHints xs in
    let E : List ℤ → Type 0 = λ xs. IsExplained store s.trail s.decisions.items marks xs c.len-at.result in
    let none : AreHints [] = search rules in
    record {
      explained = subst E (sym e) (record { leads = subst N (sym c.len-at.ensures) b; hints = hints-more [] (k + 1) none (omega arith) (omega (arith, c.requires.in_clauses, c.requires.small)) });
      within = omega (arith, c.len-at.ensures);
    }
