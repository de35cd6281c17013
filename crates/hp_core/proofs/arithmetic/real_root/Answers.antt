use Rattle.hp_core.proofs.Patterns.{root_below, not_negative}
use Rattle.hp_core.proofs.arithmetic.real_root.Goals as goal

pub returns-in-Ok-clause-asked : goal.returns-in-Ok-clause-asked
returns-in-Ok-clause-asked c = not_negative _ c.in-Ok.ensures.refused.1

pub returns-in-Ok-clause-bound : goal.returns-in-Ok-clause-bound
returns-in-Ok-clause-bound c = root_below _ _ _ _ c.args.x.size.at_least_one c.args.x.in_range c.in-Ok.ensures.square
