use Rattle.std.proofs.Common.{arith}
use Rattle.try_provers.proofs.Decided.{all-decided}
use Rattle.try_provers.proofs.inputs.inputs_of.Goals as goal

pub returns : goal.returns
returns c =
    let e = c.len-at-end.ensures in
    let over = c.loop-at-test.false in
    let v = c.loop-at.invariant in
    all-decided c.args.clauses.now c.loop-at.greatest (λ k lt. v.literals k (omega (arith, e, over, lt))) (λ k lt. v.small k (omega (arith, e, over, lt)))
