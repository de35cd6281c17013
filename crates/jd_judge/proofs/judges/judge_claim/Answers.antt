use Rattle.std.proofs.Common.{[], sym, subst}
use Rattle.jd_problem.specs.Problems.{problem_of}
use Rattle.jd_judge.specs.Judging.{IsPlaced, IsStep}
use Rattle.jd_judge.proofs.Placing.{begun-placed}
use Rattle.jd_judge.proofs.judges.judge_claim.Goals as goal

pub places-init : goal.places-init
places-init g c =
    let claim = g.C.Claim.holds c.args.claim.now in
    let p = problem_of c.args.problem.now in
    let w = c.in_ok-new.field-0 in
    let begun = c.in_ok-new.ensures in
    record {
      placed = subst (IsPlaced p claim w c.new-3.result.items c.new-2.result) (sym c.new-4.ensures)
          (subst (λ book. IsPlaced p claim w c.new-3.result.items book []) (sym c.new-2.ensures)
          (subst (λ nodes. IsPlaced p claim w nodes [] []) (sym c.new-3.ensures.items) (begun-placed p claim w begun.problem begun.path begun.unspent)));
      witness = begun.path;
    }

pub places-preserved : goal.places-preserved
places-preserved g c =
    let claim = g.C.Claim.holds c.args.claim.now in
    subst (IsStep (problem_of c.args.problem.now) claim) c.in-Go.is c.in_ok-next.ensures
