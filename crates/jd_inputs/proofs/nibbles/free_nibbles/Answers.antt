use Rattle.std.proofs.Common.{◌*◌}
use Rattle.jd_inputs.proofs.Inputs.{inside_inputs, length-inputs}
use Rattle.jd_inputs.proofs.FieldsOfNibbles.{free_numbers}
use Rattle.jd_inputs.proofs.nibbles.free_nibbles.Goals as goal

pub returns-clause-length : goal.returns-clause-length
returns-clause-length c = rw (c.new.ensures, c.in_ok-items.ensures) (length-inputs (4 * c.args.count) c.args.taken)

pub returns-clause-inside : goal.returns-clause-inside
returns-clause-inside c = λ n h. rw (c.new.ensures, c.in_ok-items.ensures) (inside_inputs (4 * c.args.count) c.args.taken n h)

pub returns-clause-numbers : goal.returns-clause-numbers
returns-clause-numbers c = λ bits h. rw (c.new.ensures, c.in_ok-items.ensures) (free_numbers bits c.args.count c.args.taken h)
