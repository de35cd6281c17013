use Rattle.std.proofs.Common.{◌≡◌, ℕ, List, ap, ◌∙◌, arith}
use Rattle.hp_model.specs.Memory.{register_value, with_register}
use Rattle.hp_control.specs.Controls.{control_of}
use Rattle.jd_content.specs.Meaning.{data_on, nibbles_on}
use Rattle.jd_content.proofs.Told.{index_told}
use Rattle.jd_content.proofs.Windows.{register_inside}
use Rattle.jd_content.proofs.registers.change_by_exchange_through.Goals as goal

pub read_register-x-requires : goal.read_register-x-requires
read_register-x-requires c = register_inside _ _ _ (rw c.number_given-r.ensures.value c.requires.inside.below)

pub overflow_cast-r : goal.overflow_cast-r
overflow_cast-r c = omega (arith, c.number_given-r.ensures.bound 11 c.requires.few)

pub returns-clause-meaning : goal.returns-clause-meaning
returns-clause-meaning c = λ listing val bounded e.
    let k = control_of c.args.control.now listing in
    let d = data_on val c.args.content.now in
    let r = c.number_given-r.result in
    let told : r ≡ d.index = c.number_given-r.ensures.value ∙ index_told k d c.args.given.now bounded e c.requires.inside.first in
    ap (λ (n : ℕ). record d { x = n; nibbles = nibbles_on val c.write_register.new.nibbles }) (c.read_register-x.ensures.meaning val)
    ∙ ap (λ (ns : List ℕ). record d { x = register_value k.size d.nibbles r; nibbles = ns }) (c.write_register.ensures.meaning val)
    ∙ ap (λ (i : ℕ). record d { x = register_value k.size d.nibbles i; nibbles = with_register k.size d.nibbles i d.x }) told
