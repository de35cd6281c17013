use Rattle.std.proofs.Common.{sym, subst, ℕ, ◌<◌, ℤ, List, [], length, Option}
use Rattle.jd_propagate.specs.Passing.{clause_of, IsPropagated}
use Rattle.jd_propagate.specs.Hints.{IsFalseBy}
use Rattle.jd_prover.proofs.Cutting.{covered-quiet}
use Rattle.jd_prover.proofs.Running.{searching-grows}
use Rattle.jd_prover.proofs.search.run.Goals as goal

pub returns-in-None-clause-node : goal.returns-in-None-clause-node
returns-in-None-clause-node c =
    let cs = c.args._clauses.now in
    let s = c.args.solver.now in
    let n = c.propagate.new in
    let e = c.in_ok-found.ensures in
    let F : Option ℕ → Type 0 = λ o. IsPropagated s.long n.firsts.items n.seconds.items n.lists.items n.trail o in
    let p = subst F c.in-None.is e.propagated in
    let h = searching-grows cs c.args._inputs s n.firsts n.seconds n.lists n.trail n.reasons c.requires.searching (p.0) e.grows e.saved e.reasons in
    (h, p.1, covered-quiet cs s.long n.trail (λ k lt. p.2 k [] lt) h.covered)

pub returns-in-Some-clause-node : goal.returns-in-Some-clause-node
returns-in-Some-clause-node c =
    let cs = c.args._clauses.now in
    let s = c.args.solver.now in
    let n = c.propagate.new in
    let e = c.in_ok-found.ensures in
    let F : Option ℕ → Type 0 = λ o. IsPropagated s.long n.firsts.items n.seconds.items n.lists.items n.trail o in
    let p = subst F c.in-Some.is e.propagated in
    let h = searching-grows cs c.args._inputs s n.firsts n.seconds n.lists n.trail n.reasons c.requires.searching (p.0) e.grows e.saved e.reasons in
    let o = h.known.origins in
    let N : ℕ → Type 0 = λ k. (k < length cs) × IsFalseBy n.trail (clause_of cs k) in
    let C : List ℤ → Type 0 = λ xs. IsFalseBy n.trail xs in
    let r = subst N (sym c.origin_of.ensures) (o.within c.in-Some.c (p.1), subst C (o.same c.in-Some.c (p.1)) (p.2)) in
    (h, r.0, r.1)
