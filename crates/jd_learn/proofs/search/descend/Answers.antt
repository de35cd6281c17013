use Rattle.std.proofs.Common.{subst, ℤ, List}
use Rattle.jd_propagate.specs.Quiet.{HasNoOpposites}
use Rattle.jd_prover.proofs.Outcomes.{model-of}
use Rattle.jd_learn.proofs.Turning.{given-quiet}
use Rattle.jd_learn.proofs.search.descend.Goals as goal

pub returns-in_ok-values-in-None : goal.returns-in_ok-values-in-None
returns-in_ok-values-in-None c =
    let s = c.args.solver.now in
    let e = c.in_ok-values-in-None.ensures in
    let O : List ℤ → Type 0 = λ xs. HasNoOpposites xs in
    model-of c.args.clauses.now c.args.inputs c.in_ok-values-in-None.field-0.items s.trail c.requires.decided e.many e.values c.in-None.ensures
    (subst O c.literals-literals.ensures.same c.literals-literals.ensures.orderly.no_opposites) (given-quiet c.args.clauses.now s c.requires.quiet)
