use Rattle.std.proofs.Common.{◌≡◌, ◌∙◌, subst}
use Rattle.std.specs.Prelude.{IfOk}
use Rattle.jd_model.specs.Seen.{agree}
use Rattle.jd_problem.specs.Problems.{problem_of}
use Rattle.jd_judge.specs.Judging.{IsEqual}
use Rattle.jd_short.specs.Pairs.{pair}
use Rattle.jd_short.proofs.Agreeing.{source-agrees}
use Rattle.jd_short.proofs.rounds.shorten.Goals as goal

pub shorten_on-requires : goal.shorten_on-requires
shorten_on-requires g c =
    let p = problem_of c.args.problem.now in
    let same = subst (λ f. IfOk f (λ a. a.routine ≡ c.copy.result)) c.in-Ok.is c.in_ok-source.ensures.routine in
    let equal = subst (λ f. IfOk f (λ a. IsEqual (pair p c.copy.result) (agree (pair p c.copy.result)) a.book a.cert)) c.in-Ok.is c.in_ok-source.ensures.equal in
    source-agrees p c.in-Ok.source (same ∙ c.copy.ensures) (subst (λ r. IsEqual (pair p r) (agree (pair p r)) c.in-Ok.source.book c.in-Ok.source.cert) c.copy.ensures equal)
