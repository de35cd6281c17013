use Rattle.std.proofs.Common.{◌^◌, arith}
use Rattle.jd_numbers.proofs.Digits.{within-power, digit-within}
use Rattle.jd_numbers.proofs.numbers.number_in.Goals as goal

pub with_digit-n-requires : goal.with_digit-n-requires
with_digit-n-requires c =
    digit-within c.args.base c.args.most c.loop-b.n c.loop-b.b-index c.requires.base c.loop-b.invariant.below
    (2 ^ 64) c.digit_value-digit.result c.if-digit-base.false (omega arith) c.requires.most

pub returns-clause-bound : goal.returns-clause-bound
returns-clause-bound c =
    within-power c.args.base c.args.most c.loop-b.n c.loop-b.b-index c.requires.base c.loop-b.invariant.below (omega arith)
