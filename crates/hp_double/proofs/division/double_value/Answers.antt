use Rattle.std.proofs.Common.{◌-◌, ◌^◌, ◌<◌, ◌≤◌, ◌∙◌, pos, ap, arith}
use Rattle.hp_double.proofs.Doubles.{low_value, high_ones, high_twos}
use Rattle.hp_double.proofs.division.double_value.Goals as goal

pub returns-then-upper-half : goal.returns-then-upper-half
returns-then-upper-half c =
    let size = c.args.size in
    let low : c.args.upper < 2 ^ (size.bits - 1) = omega arith in
    ap pos c.joined.ensures ∙ low_value size.bits c.args.mode c.args.upper c.args.lower size.at_least_one c.requires.lower low

pub returns-in-Ones : goal.returns-in-Ones
returns-in-Ones c =
    let size = c.args.size in
    let high : 2 ^ (size.bits - 1) ≤ c.args.upper = omega arith in
    rw (c.joined-complement.ensures, c.mask.ensures, c.mask-2.ensures, c.in-Ones.is)
    (high_ones size.bits c.args.upper c.args.lower size.at_least_one c.requires.upper c.requires.lower high)

pub returns-in-Twos : goal.returns-in-Twos
returns-in-Twos c =
    let size = c.args.size in
    let high : 2 ^ (size.bits - 1) ≤ c.args.upper = omega arith in
    rw (c.joined-complement.ensures, c.mask.ensures, c.mask-2.ensures, c.in-Twos.is)
    (high_twos size.bits c.args.upper c.args.lower size.at_least_one c.requires.upper c.requires.lower high)
