use Rattle.std.proofs.Common.{◌≡◌, ◌∙◌, refl}
use Rattle.hp_core.specs.Machines.{control_of}
use Rattle.hp_core.proofs.Named.{no_error_through, register_spelled}
use Rattle.hp_core.proofs.registers.answer_index.Goals as goal

pub returns-else-index-count-clause-no_error : goal.returns-else-index-count-clause-no_error
returns-else-index-count-clause-no_error c inside =
    let before = control_of c.args.machine.now in
    let given : c.spell.new.given.items ≡ register_spelled before c.args.machine.now.content.i =
    c.spell.ensures ∙ rw (c.index_bits.ensures.value, c.extent.ensures.value) refl in
    rw given (no_error_through before c.args.machine.now.content.i c.extent.ensures.bounds.bytes inside)
