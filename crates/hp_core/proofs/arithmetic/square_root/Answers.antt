use Rattle.std.proofs.Common.{◌≡◌, false, ap, refl, sym, ◌∙◌}
use Rattle.std.specs.Prelude.{pos, int_lt}
use Rattle.hp_model.specs.Words.{value}
use Rattle.hp_model.specs.WordOperations.{root_of}
use Rattle.hp_core.specs.Machines.{control_of, data_of}
use Rattle.hp_core.proofs.Roots.{rooted}
use Rattle.hp_core.proofs.arithmetic.square_root.Goals as goal

pub returns-in-Ok : goal.returns-in-Ok
returns-in-Ok c =
    let now = c.args.machine.now in
    let size : c.x_word-x.result.size.bits ≡ now.control.size.bits = ap (λ s. s.bits) c.x_word-x.ensures.size in
    let mode : c.x_word-x.result.mode ≡ now.control.mode = c.x_word-x.ensures.mode in
    let pattern : c.x_word-x.result.pattern ≡ now.content.x = c.x_word-x.ensures.pattern in
    let asked : int_lt (value c.x_word-x.result.size.bits c.x_word-x.result.mode c.x_word-x.result.pattern) (pos 0) ≡ false = c.in-Ok.ensures.asked in
    let told : c.in-Ok.answer ≡ root_of c.x_word-x.result.size.bits c.x_word-x.result.mode c.x_word-x.result.pattern = c.in-Ok.ensures.value in
    let real : int_lt (value now.control.size.bits now.control.mode now.content.x) (pos 0) ≡ false = rw (size, mode, pattern) at asked in
    let is : c.in-Ok.answer ≡ root_of now.control.size.bits now.control.mode now.content.x = told ∙ rw (size, mode, pattern) refl in
    let done = rooted (control_of now) (data_of now) c.in-Ok.answer real is in
    record {
      control = c.answer_x.ensures.control;
      answers = done.0;
      contents = done.1 ∙ sym c.answer_x.ensures.contents;
    }
