use Rattle.std.proofs.Common.{◌≡◌, ◌≤◌, arith, refl, ap, ◌∙◌}
use Rattle.hp_model.specs.Questions.{x_magnitude}
use Rattle.hp_core.specs.Machines.{control_of, data_of}
use Rattle.hp_core.proofs.Sizes.{sized, size_spelled}
use Rattle.hp_core.proofs.settings.set_size.Goals as goal

pub returns-clause-changes : goal.returns-clause-changes
returns-clause-changes c =
    let before = control_of c.args.machine.now in
    let held = data_of c.args.machine.now in
    let bits : c.magnitude-bits.result ≡ x_magnitude before held =
    c.magnitude-bits.ensures.value ∙ rw (c.x_word.ensures.size, c.x_word.ensures.mode, c.x_word.ensures.pattern) refl in
    let small : x_magnitude before held ≤ 64 = omega (arith, c.if-bits-gt64.false, bits) in
    let done = sized before held small in
    let given : c.spell.new.given.items ≡ size_spelled (x_magnitude before held) = c.spell.ensures ∙ ap size_spelled bits in
    record {
      control = refl;
      answers = given ∙ done.0;
      contents = rw (c.cut.ensures, c.drop.ensures, c.size_given.ensures, c.as_slice.ensures.value, given) done.1;
    }
