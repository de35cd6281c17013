use Rattle.std.proofs.Common.{◌<◌, length, arith}
use Rattle.jd_vectors.proofs.Kept.{Inside-at}
use Rattle.jd_shifts.proofs.Chains.{trues-take}
use Rattle.jd_shifts.proofs.counts.literal_or_false.Goals as goal

pub returns-then-i-len-clause-inside : goal.returns-then-i-len-clause-inside
returns-then-i-len-clause-inside c = λ n h. Inside-at n c.args.a.now c.args.i c.at.result h c.at.ensures

pub returns-then-i-len-clause-value : goal.returns-then-i-len-clause-value
returns-then-i-len-clause-value c = λ val.
    let within : c.args.i < length c.args.a.now = omega arith in
    trues-take val c.args.a.now c.args.i c.at.result c.at.ensures within
