use Rattle.std.proofs.Common.{ℕ, ap, ◌∙◌, arith}
use Rattle.hp_model.specs.Memory.{with_register}
use Rattle.hp_control.specs.Controls.{control_of}
use Rattle.jd_content.specs.Meaning.{data_on}
use Rattle.jd_content.proofs.Told.{index_told}
use Rattle.jd_content.proofs.Windows.{register_inside}
use Rattle.jd_content.proofs.registers.change_by_store.Goals as goal

pub store_at-requires-clause-inside : goal.store_at-requires-clause-inside
store_at-requires-clause-inside c = register_inside _ _ _ (rw c.in-Direct.is at c.requires.inside)

pub store_at-requires-in-Through-clause-inside : goal.store_at-requires-in-Through-clause-inside
store_at-requires-in-Through-clause-inside c = register_inside _ _ _ (rw c.number_given.ensures.value (rw c.in-Through.is at c.requires.inside).below)

pub returns-in-Through-clause-meaning : goal.returns-in-Through-clause-meaning
returns-in-Through-clause-meaning c = λ listing val bounded e.
    let k = control_of c.args.control.now listing in
    let d = data_on val c.args.content.now in
    let told = index_told k d c.args.given.now bounded (rw c.in-Through.is at e) (rw c.in-Through.is at c.requires.inside).first in
    rw c.in-Through.is (c.store_at-in-Through.ensures.meaning val
    ∙ ap (λ (r : ℕ). record d { nibbles = with_register k.size d.nibbles r d.x }) (c.number_given.ensures.value ∙ told))

pub overflow_cast-number_given : goal.overflow_cast-number_given
overflow_cast-number_given c = omega (arith, c.number_given.ensures.bound 11 c.requires.few)
