use Rattle.std.proofs.Common.{arith, rules, subst, ap, ℤ, Bool, List, length}
use Rattle.jd_propagate.specs.Levels.{negated}
use Rattle.jd_prover.specs.Solving.{IsRight}
use Rattle.jd_learn.specs.Teaching.{IsTaughtTo}
use Rattle.jd_learn.proofs.Turning.{no-literals, taught-after}
use Rattle.jd_learn.proofs.search.learn.Goals as goal

pub end-requires-clause-right : goal.end-requires-clause-right
end-requires-clause-right c =
    let t = c.in_ok-taught.taught in
    let P : List ℤ → Type 0 = λ xs. IsRight c.args.clauses.now c.args.solver.now.lines.items (negated xs) t.hints.items in
    subst P (no-literals t.kept.items (search rules)) c.in_ok-taught.ensures.right

pub teach-requires-clause-taught : goal.teach-requires-clause-taught
teach-requires-clause-taught c = taught-after c.args.clauses.now c.args.solver.now c.cut.new.solver c.in_ok-taught.taught c.in_ok-cut.ensures.lines c.in_ok-taught.ensures

pub returns : goal.returns
returns c =
    let next = c.teach.new.solver in
    let P : Bool → Type 0 = λ b. IsTaughtTo c.args.clauses.now (length c.cut.new.solver.lines.items) next b in
    let t = subst P c.if-not-branch.false c.in_ok-teach.ensures in
    c.in_ok-turn-2.ensures c.args.inputs c.args.budget (omega (arith, t.1, ap length c.in_ok-cut.ensures.lines, c.requires.few))
