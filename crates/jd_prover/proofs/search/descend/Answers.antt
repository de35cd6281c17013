use Rattle.std.proofs.Common.{arith, ap, subst, length, ℤ, List}
use Rattle.jd_propagate.specs.Quiet.{HasNoOpposites}
use Rattle.jd_prover.proofs.Outcomes.{model-of}
use Rattle.jd_prover.proofs.search.descend.Goals as goal

pub returns-in_ok-values-in-None : goal.returns-in_ok-values-in-None
returns-in_ok-values-in-None c =
    let s = c.args.solver.now in
    let n = c.requires.node in
    let e = c.in_ok-values-in-None.ensures in
    let O : List ℤ → Type 0 = λ xs. HasNoOpposites xs in
    model-of c.args.clauses.now c.args.inputs c.in_ok-values-in-None.field-0.items s.trail c.requires.decided e.many e.values
    c.in-None.ensures (subst O c.literals-literals.ensures.same c.literals-literals.ensures.orderly.no_opposites) (n.2)

pub returns-in_ok-turn-in-Some : goal.returns-in_ok-turn-in-Some
returns-in_ok-turn-in-Some c = c.in_ok-turn-in-Some.ensures c.args.budget (omega (arith, ap length c.in_ok-decide-in-Some.ensures.lines, c.requires.few))
