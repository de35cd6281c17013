use Rattle.std.proofs.Common.{◌≡◌, refl, subst, arith}
use Rattle.std.specs.Prelude.{false, IfErr}
use Rattle.jd_problem.specs.Problems.{problem_of}
use Rattle.jd_judge.specs.Judging.{IsJudged}
use Rattle.jd_judge.specs.Laws.{is_equal}
use Rattle.jd_short.specs.Pairs.{pair}
use Rattle.jd_short.specs.Shortened.{IsRefusal}
use Rattle.jd_short.proofs.Turns.{in-order, one-more}
use Rattle.jd_short.proofs.rounds.judge_candidates.Goals as goal

pub loop-candidate-preserved : goal.loop-candidate-preserved
loop-candidate-preserved g c =
    let p = problem_of c.args.problem.now in
    let items = c.args.found.now in
    let old = c.loop-candidate.refusals.refusals.items in
    let new = c.push.new.self.refusals.items in
    let other = subst (λ f. IfErr f (λ j. is_equal j ≡ false)) c.in-Err.is c.in_ok-agreed.ensures.other in
    let judged = subst (λ r. IsJudged (pair p r) c.in-Err.answer) c.put.ensures.value
    (subst (λ f. IfErr f (λ j. IsJudged (pair p c.put.result) j)) c.in-Err.is c.in_ok-agreed.ensures.judged) in
    record {
      stand = c.loop-candidate.invariant.stand;
      in_order = in-order items c.loop-candidate.candidate-index old new _ _ c.loop-candidate-test.true c.loop-candidate.invariant.in_order c.in_ok-push-in-Err.ensures.pushed refl;
      refused = one-more (IsRefusal p c.args.routine.now) old new _ c.loop-candidate.invariant.refused c.in_ok-push-in-Err.ensures.pushed (record { other = other; judged = judged });
    }
