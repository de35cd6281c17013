use Rattle.std.proofs.Common.{false, sym, subst}
use Rattle.jd_problem.specs.Problems.{problem_of}
use Rattle.jd_walk.specs.Walked.{answered}
use Rattle.jd_judge.specs.Judging.{IsPlaced}
use Rattle.jd_judge.proofs.Placing.{fork-placed}
use Rattle.jd_judge.proofs.steps.at_question.Goals as goal

pub enter-requires-clause-placed : goal.enter-requires-clause-placed
enter-requires-clause-placed g c =
    let claim = g.C.Claim.holds c.args.claim.now in
    let p = problem_of c.args.problem.now in
    let old = c.args.judging in
    subst (λ w. IsPlaced p claim w c.push.new.self.items old.book old.starts) (sym c.in_ok-answer.ensures.walk)
    (subst (λ ns. IsPlaced p claim (answered old.walk false) ns old.book old.starts) (sym c.in_ok-push.ensures.items)
    (fork-placed p claim old.walk old.nodes.items old.book old.starts c.requires.placed c.requires.asks))
