use Rattle.std.proofs.Common.{refl}
use Rattle.jd_problem.specs.Problems.{problem_of}
use Rattle.jd_check.proofs.EventByEvent.{begun-right}
use Rattle.jd_check.proofs.going.CheckRun.new.Goals as goal

pub returns-clause-checking : goal.returns-clause-checking
returns-clause-checking g c =
    let walk = c.in_ok-walk.ensures in
    λ spent. begun-right (problem_of c.args.problem.now) _ walk.problem walk.path walk.unspent refl c.new-2.ensures refl refl
