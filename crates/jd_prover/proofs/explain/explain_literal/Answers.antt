use Rattle.std.proofs.Common.{◌≡◌, ◌∙◌, ap, sym, subst, arith, w32, rules, ℕ, ◌+◌, ℤ, pos, List, [], ◌∷◌, ◌++◌, take, get_or, Bool, false}
use mir.Val.{SFits}
use Rattle.std.proofs.lemmas.Int.{to_z-of_z}
use Rattle.jd_propagate.specs.declared.reason.Reason.{Reason}
use Rattle.jd_propagate.specs.Quiet.{IsIn}
use Rattle.jd_propagate.specs.Trails.{key_of}
use Rattle.jd_propagate.specs.Reasons.{IsReason}
use Rattle.jd_prover.specs.Solving.{IsExplained, store_of}
use Rattle.jd_propagate.specs.Levels.{clauses_of}
use Rattle.jd_prover.proofs.Stored.{stored-at, stored-more}
use Rattle.jd_prover.proofs.Hinting.{explained-unmarked, explained-decided, explained-line, explained-clause}
use Rattle.jd_prover.proofs.explain.explain_literal.Goals as goal

pub returns-then-not-is_needed : goal.returns-then-not-is_needed
returns-then-not-is_needed c =
    let s = c.args.solver.now in
    let l = c.literal_at.result in
    let f : SFits w32 l = search rules in
    let P : List Bool → Type 0 = λ xs. get_or xs (key_of l) false ≡ false in
    let Q : ℤ → Type 0 = λ z. get_or c.as_slice.result.now (key_of z) false ≡ false in
    let e = c.requires.explained in
    record {
      leads = explained-unmarked (store_of c.args._clauses.now s.lines.items) c.args.marks.now.items s.decisions.items s.trail _ c.args.at l c.requires.in_trail c.literal_at.ensures.same
          (subst P c.as_slice.ensures.value (subst Q (to_z-of_z w32 l f) (sym c.is_needed.ensures ∙ c.if-not-is_needed.true))) e.leads;
      hints = e.hints;
    }

pub returns-in-Decision : goal.returns-in-Decision
returns-in-Decision c =
    let s = c.args.solver.now in
    let at = c.args.at in
    let store = store_of c.args._clauses.now s.lines.items in
    let e = c.requires.explained in
    let R : Reason → Type 0 = λ r. IsReason s.long store s.decisions.items s.decisions.items (take at s.trail) (get_or s.trail at (pos 0)) r in
    record {
      leads = explained-decided store c.args.marks.now.items s.decisions.items s.trail _ at c.requires.in_trail (subst R (sym c.in-Decision.ensures) (c.requires.known.reasons.each at c.requires.in_trail)) e.leads;
      hints = e.hints;
    }

pub returns-in_ok-push_hint-in-Line : goal.returns-in_ok-push_hint-in-Line
returns-in_ok-push_hint-in-Line c =
    let s = c.args.solver.now in
    let at = c.args.at in
    let R : Reason → Type 0 = λ r. IsReason s.long (store_of c.args._clauses.now s.lines.items) s.decisions.items s.decisions.items (take at s.trail) (get_or s.trail at (pos 0)) r in
    let E : List ℤ → Type 0 = λ xs. IsExplained (store_of c.args._clauses.now s.lines.items) s.trail s.decisions.items c.args.marks.now.items xs at in
    subst E (sym c.in_ok-push_hint-in-Line.ensures)
    (explained-line s.long (store_of c.args._clauses.now s.lines.items) s.decisions.items s.decisions.items s.trail c.args.marks.now.items c.args.hints.now.items at c.in-Line.id c.literal_at.ensures.orderly.no_opposites c.requires.in_trail
    (subst R (sym c.in-Line.ensures) (c.requires.known.reasons.each at c.requires.in_trail)) c.requires.explained)

pub returns-in_ok-push_hint-in-Clause : goal.returns-in_ok-push_hint-in-Clause
returns-in_ok-push_hint-in-Clause c =
    let s = c.args.solver.now in
    let at = c.args.at in
    let cs = c.args._clauses.now in
    let next = c.mark_clause.new.marks.items in
    let R : Reason → Type 0 = λ r. IsReason s.long (store_of cs s.lines.items) s.decisions.items s.decisions.items (take at s.trail) (get_or s.trail at (pos 0)) r in
    let E : List ℤ → Type 0 = λ xs. IsExplained (store_of cs s.lines.items) s.trail s.decisions.items next xs at in
    let k = c.in-Clause.c in
    let m = c.in_ok-mark_clause-in-Clause.ensures in
    let e = c.in_ok-push_hint-in-Clause.ensures ∙ ap (λ (n : ℕ). c.args.hints.now.items ++ pos n ∷ []) c.id_of.ensures in
    subst E (sym e)
    (explained-clause cs s.long s.origins.items (store_of cs s.lines.items) s.decisions.items s.decisions.items s.decisions.items s.trail c.args.marks.now.items next c.args.hints.now.items at k
    c.literal_at.ensures.orderly.no_opposites c.requires.in_trail (omega (arith, c.requires.small)) c.requires.known.origins
    (λ j lt. stored-more cs (clauses_of s.lines.items) 1 (j + 1) (get_or cs j []) (stored-at cs 1 j (j + 1) (omega arith) lt)) m.kept
    (λ l is. m.marked l (let P : List ℤ → Type 0 = λ xs. IsIn xs l in subst P (sym c.clause.ensures.clause) is))
    (subst R (sym c.in-Clause.ensures) (c.requires.known.reasons.each at c.requires.in_trail)) c.requires.explained)
