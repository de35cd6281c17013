use Rattle.hp_core.proofs.Patterns.{product_below}
use Rattle.hp_core.proofs.double.product.Goals as goal

pub returns-clause-upper : goal.returns-clause-upper
returns-clause-upper c = rw (c.dbl_mul.ensures, c.x_word.ensures.size) (product_below c.args.machine.now.control.size.bits _ _ _).0

pub returns-clause-lower : goal.returns-clause-lower
returns-clause-lower c = rw (c.dbl_mul.ensures, c.x_word.ensures.size) (product_below c.args.machine.now.control.size.bits _ _ _).1
