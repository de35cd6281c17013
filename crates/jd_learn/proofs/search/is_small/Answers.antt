use Rattle.std.proofs.Common.{arith, ◌+◌, ◌≤◌, ◌^◌}
use Rattle.std.proofs.Math.Pow.{pow_mono}
use Rattle.jd_learn.proofs.search.is_small.Goals as goal

pub returns-then-inputs-ge20 : goal.returns-then-inputs-ge20
returns-then-inputs-ge20 c =
    let n = c.args.inputs in
    let le : 21 ≤ n + 1 = omega (arith, c.if-inputs-ge20.true) in
    let g : 2 ^ 21 ≤ 2 ^ (n + 1) = pow_mono le in
    omega (arith, c.requires)
