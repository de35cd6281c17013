use Rattle.std.proofs.Common.{arith}
use Rattle.jd_learn.proofs.Turning.{spent-at}
use Rattle.jd_learn.proofs.search.turn.Goals as goal

pub returns-then-len-budget : goal.returns-then-len-budget
returns-then-len-budget c =
    spent-at c.args.clauses.now c.args.inputs c.args.budget c.args.solver.now c.args.conflict c.in-Some.clause c.requires.ended c.in-Some.is
    (omega (arith, c.if-len-budget.true, c.len.ensures, c.requires.few))
