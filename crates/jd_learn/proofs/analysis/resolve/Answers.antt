use Rattle.std.proofs.Common.{arith, ◌∙◌, ap, sym, subst, ℕ, ℤ, pos, List, [], ◌∷◌, ◌++◌}
use Rattle.jd_propagate.specs.declared.reason.Reason.TheVariants as reason
use Rattle.jd_propagate.specs.Quiet.{IsIn, HasNoOpposites}
use Rattle.jd_prover.specs.Solving.{store_of, IsExplained}
use Rattle.jd_prover.proofs.Hinting.{explained-clause}
use Rattle.jd_learn.specs.Learning.{known}
use Rattle.jd_learn.proofs.Analysing.{stored-known, reason-at, origin-small}
use Rattle.jd_learn.proofs.analysis.resolve.Goals as goal

pub clause-literals-requires : goal.clause-literals-requires
clause-literals-requires c = (reason-at c.args._clauses.now c.args.solver.now c.args.at (reason.Clause c.args.clause) c.requires.learning c.requires.in_trail c.requires.reason).0

pub id_of-requires-clause-within : goal.id_of-requires-clause-within
id_of-requires-clause-within c =
    let s = c.args.solver.now in
    let r = reason-at c.args._clauses.now s c.args.at (reason.Clause c.args.clause) c.requires.learning c.requires.in_trail c.requires.reason in
    (origin-small c.args._clauses.now s c.args.clause c.requires.learning c.requires.small (r.0)).0

pub id_of-requires-clause-small : goal.id_of-requires-clause-small
id_of-requires-clause-small c =
    let s = c.args.solver.now in
    let r = reason-at c.args._clauses.now s c.args.at (reason.Clause c.args.clause) c.requires.learning c.requires.in_trail c.requires.reason in
    (origin-small c.args._clauses.now s c.args.clause c.requires.learning c.requires.small (r.0)).1

pub push_hint-requires : goal.push_hint-requires
push_hint-requires c =
    let s = c.args.solver.now in
    let r = reason-at c.args._clauses.now s c.args.at (reason.Clause c.args.clause) c.requires.learning c.requires.in_trail c.requires.reason in
    let o = (origin-small c.args._clauses.now s c.args.clause c.requires.learning c.requires.small (r.0)).1 in
    omega (arith, c.id_of.ensures)

pub returns : goal.returns
returns c =
    let cs = c.args._clauses.now in
    let s = c.args.solver.now in
    let a = c.args.analysis.now in
    let at = c.args.at in
    let k = c.args.clause in
    let store = store_of cs s.lines.items in
    let next = c.mark_clause.new.marks.items in
    let m = c.in_ok-mark_clause.ensures in
    let h = c.requires.analysed in
    let g = c.requires.learning in
    let r = reason-at cs s at (reason.Clause k) g c.requires.in_trail c.requires.reason in
    let o = origin-small cs s k g c.requires.small (r.0) in
    let O : List ℤ → Type 0 = λ xs. HasNoOpposites xs in
    let E : List ℤ → Type 0 = λ xs. IsExplained store s.trail a.kept.items next xs at in
    let e = c.in_ok-push_hint.ensures ∙ ap (λ (n : ℕ). a.hints.items ++ pos n ∷ []) c.id_of.ensures in
    record {
      explained = subst E (sym e) (explained-clause (known cs s) s.long s.origins.items store s.trail [] a.kept.items s.trail a.marks.items next a.hints.items at k
          (subst O c.literals-literals.ensures.same c.literals-literals.ensures.orderly.no_opposites) c.requires.in_trail (o.2) g.origins (stored-known cs s) m.kept
          (λ l is. m.marked l (let P : List ℤ → Type 0 = λ xs. IsIn xs l in subst P (sym c.clause-literals.ensures.clause) is)) r h.explained);
      are_true = h.are_true;
      literals = h.literals;
    }
