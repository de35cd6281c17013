use Rattle.std.proofs.Common.{◌*◌, false}
use Rattle.std.proofs.lemmas.List.{length-replicate}
use Rattle.jd_circuit.specs.declared.literals.Lit.TheVariants.{Const}
use Rattle.jd_circuit.specs.Net.{at}
use Rattle.jd_content.proofs.Cleared.{inside_falses}
use Rattle.jd_inputs.proofs.FieldsOfNibbles.{zero_numbers}
use Rattle.jd_inputs.proofs.nibbles.zero_nibbles.Goals as goal

pub returns-clause-length : goal.returns-clause-length
returns-clause-length c = rw (c.new.ensures, c.in_ok-items.ensures) (length-replicate (4 * c.args.count) (Const false))

pub returns-clause-inside : goal.returns-clause-inside
returns-clause-inside c = λ n. rw (c.new.ensures, c.in_ok-items.ensures) (inside_falses n (4 * c.args.count))

pub returns-clause-numbers : goal.returns-clause-numbers
returns-clause-numbers c = λ bits rest. rw (c.new.ensures, c.in_ok-items.ensures) (zero_numbers (at bits) c.args.count rest)
