use Rattle.std.proofs.Common.{rules}
use Rattle.jd_numbers.proofs.Hexadecimals.{length-step}
use Rattle.jd_numbers.proofs.writing.+push_digits.Goals as goal

pub push_digits-requires : goal.push_digits-requires
push_digits-requires t c = let more = length-step c.args.n c.if-n-lt16.false c.ranges.n.fits in search (rules, more)
