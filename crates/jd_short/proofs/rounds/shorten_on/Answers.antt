use Rattle.std.proofs.Common.{subst}
use Rattle.jd_problem.specs.Problems.{problem_of}
use Rattle.jd_pieces.specs.Candidates.{candidates}
use Rattle.jd_short.specs.Shortened.{IsRound}
use Rattle.jd_short.proofs.Agreeing.{next-agrees}
use Rattle.jd_short.proofs.rounds.shorten_on.Goals as goal

pub rounds-preserved : goal.rounds-preserved
rounds-preserved g c =
    let p = problem_of c.args.problem.now in
    let routine = c.rounds.agreed.routine in
    next-agrees p routine c.in-Shorter.next c.rounds.invariant.reachable c.rounds.invariant.no_longer
    (subst (IsRound p routine (candidates routine)) c.in-Shorter.is c.in_ok-next.ensures)
