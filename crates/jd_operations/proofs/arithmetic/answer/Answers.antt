use Rattle.std.proofs.Common.{◌+◌, length, arith}
use Rattle.jd_operations.proofs.Bounds.{rectangles, squares}
use Rattle.jd_operations.proofs.arithmetic.answer.Goals as goal

pub returns-in-Multiply-clause-more : goal.returns-in-Multiply-clause-more
returns-in-Multiply-clause-more g c = omega (arith, c.product.ensures.more, squares 12 (length c.args.x.now) c.requires.word)

pub returns-in-Divide-clause-more : goal.returns-in-Divide-clause-more
returns-in-Divide-clause-more g c = omega (arith, c.quotient.ensures.more, rectangles 8 (length c.args.x.now) (length c.args.x.now + 1) (omega (arith, c.requires.word)))

pub returns-in-Remainder-clause-more : goal.returns-in-Remainder-clause-more
returns-in-Remainder-clause-more g c = omega (arith, c.remainder.ensures.more, rectangles 8 (length c.args.x.now) (length c.args.x.now + 1) (omega (arith, c.requires.word)))

pub returns-in-SquareRoot-clause-more : goal.returns-in-SquareRoot-clause-more
returns-in-SquareRoot-clause-more g c = omega (arith, c.square_root.ensures.more, rectangles 8 (length c.args.x.now) (length c.args.x.now + 2) (omega (arith, c.requires.word)))
