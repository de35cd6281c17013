use Rattle.hp_display.proofs.Powers.{low_mask, digit_small}
use Rattle.hp_display.proofs.digits.low_digit.Goals as goal

pub returns-clause-value : goal.returns-clause-value
returns-clause-value c = low_mask c.args.n c.args.bits c.requires

pub returns-clause-bound : goal.returns-clause-bound
returns-clause-bound c = rw (low_mask c.args.n c.args.bits c.requires) (digit_small c.args.n c.args.bits c.requires)
