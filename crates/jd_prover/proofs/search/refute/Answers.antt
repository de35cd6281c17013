use Rattle.std.proofs.Common.{arith, rules}
use Rattle.jd_prover.proofs.Deciding.{decisions-true}
use Rattle.jd_prover.proofs.Logged.{refuted-by}
use Rattle.jd_prover.proofs.search.refute.Goals as goal

pub conflict_line-requires-clause-decisions : goal.conflict_line-requires-clause-decisions
conflict_line-requires-clause-decisions c = decisions-true c.args.clauses.now c.args.solver.now c.requires.node.0.levels

pub returns-then-is_empty : goal.returns-then-is_empty
returns-then-is_empty c =
    refuted-by c.args.clauses.now c.args.budget c.args.solver.now _ c.in_ok-line.line c.push.new.self.items c.requires.node.0.lines c.in_ok-line.ensures
    (search rules) (omega (arith, c.len.ensures, c.len-2.ensures)) (omega (arith, c.len.ensures, c.len-2.ensures, c.requires.many, c.requires.few, c.requires.small)) c.requires.none_empty c.requires.few c.in_ok-push.ensures.items

pub returns : goal.returns
returns c = c.in_ok-turn.ensures c.args.budget (omega (arith, c.in_ok-turn_back.ensures.lines, c.requires.few))
