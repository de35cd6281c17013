use Rattle.jd_circuit.specs.Meaning.{lit_value}
use Rattle.jd_operations.proofs.rotations.rotated.Goals as goal

pub returns-in-Left-clause-meaning : goal.returns-in-Left-clause-meaning
returns-in-Left-clause-meaning c = λ val. rw c.in-Left.is (c.rotated_left.ensures.meaning (lit_value val c.args.carry) val)

pub returns-in-Right-clause-meaning : goal.returns-in-Right-clause-meaning
returns-in-Right-clause-meaning c = λ val. rw c.in-Right.is (c.rotated_right.ensures.meaning (lit_value val c.args.carry) val)
