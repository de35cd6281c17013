use Rattle.std.proofs.Common.{sym, subst, ℤ, List}
use Rattle.jd_propagate.specs.declared.reason.Reason.TheVariants as reason
use Rattle.jd_propagate.specs.Quiet.{HasNoOpposites}
use Rattle.jd_prover.specs.Solving.{store_of, IsExplained}
use Rattle.jd_learn.proofs.Analysing.{analysed-unit, reason-at}
use Rattle.jd_learn.proofs.analysis.resolve_unit.Goals as goal

pub push_hint-requires : goal.push_hint-requires
push_hint-requires c = (reason-at c.args._clauses.now c.args.solver.now c.args.at (reason.Line c.args.id) c.requires.learning c.requires.in_trail c.requires.reason).1.small

pub returns : goal.returns
returns c =
    let cs = c.args._clauses.now in
    let s = c.args.solver.now in
    let a = c.args.analysis.now in
    let at = c.args.at in
    let h = c.requires.analysed in
    let O : List ℤ → Type 0 = λ xs. HasNoOpposites xs in
    let E : List ℤ → Type 0 = λ xs. IsExplained (store_of cs s.lines.items) s.trail a.kept.items a.marks.items xs at in
    record {
      explained = subst E (sym c.in_ok-push_hint.ensures) (analysed-unit cs s a.kept.items a.marks.items a.hints.items at c.args.id
          (subst O c.literals-literals.ensures.same c.literals-literals.ensures.orderly.no_opposites) c.requires.in_trail
          (reason-at cs s at (reason.Line c.args.id) c.requires.learning c.requires.in_trail c.requires.reason) h.explained);
      are_true = h.are_true;
      literals = h.literals;
    }
