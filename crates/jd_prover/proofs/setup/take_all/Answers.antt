use Rattle.std.proofs.Common.{sym, subst, ℕ, Bool, add-one}
use Rattle.jd_prover.specs.Solving.{IsTaken, IsTakenBy}
use Rattle.jd_prover.proofs.setup.take_all.Goals as goal

pub loop-at-preserved : goal.loop-at-preserved
loop-at-preserved c =
    let P : Bool → Type 0 = λ b. IsTakenBy c.args.clauses.now c.loop-at.at c.take_clause.new.solver b in
    let N : ℕ → Type 0 = λ n. IsTaken c.args.clauses.now n c.take_clause.new.solver in
    subst N (sym (add-one c.loop-at.at)) (subst P c.if-not-branch.false c.in_ok-take_clause.ensures)
