use Rattle.std.proofs.Common.{arith, ◌≡◌, ◌+◌, ◌<◌, ◌^◌, subst, ℕ, Option, length}
use Rattle.jd_prover.specs.Searching.{IsNode}
use Rattle.jd_prover.proofs.Bound.{budget_small}
use Rattle.jd_prover.proofs.Logged.{lines-spent}
use Rattle.jd_prover.proofs.search.turn.Goals as goal

pub returns-then-len-budget : goal.returns-then-len-budget
returns-then-len-budget c =
    let cs = c.args.clauses.now in
    let s = c.args.solver.now in
    let N : Option ℕ → Type 0 = λ o. IsNode cs c.args.inputs s o in
    let h = (subst N c.in-Some.is c.requires.node).0 in
    let many : length s.lines.items ≡ c.args.budget = omega (arith, c.if-len-budget.true, c.len.ensures, c.requires.few) in
    let small = budget_small c.args.inputs (length s.lines.items) s.trail s.limits.items h.room in
    let P : ℕ → Type 0 = λ n. n < 2 ^ (c.args.inputs + 1) in
    (lines-spent cs c.args.inputs c.args.budget s.lines.items h.lines many (subst P many small), h.lines.ranges)
