use Rattle.std.proofs.Common.{◌≡◌, arith, refl}
use Rattle.hp_core.proofs.registers.recall.Goals as goal

pub returns-in-Some-register_at : goal.returns-in-Some-register_at
returns-in-Some-register_at c =
    let named : c.in-Some-register_at.r ≡ c.args.machine.now.content.i = omega (arith, c.in-Some-register_at.ensures) in
    let none = c.answer_index.ensures.no_error (omega (arith, c.in-Some-register_at.ensures)) in
    record {
      control = c.recall_at-in-Some-register_at.ensures.control;
      answers = rw c.in-Through.is c.answer_index.ensures.value;
      contents = rw (c.in-Through.is, none, c.recall_at-in-Some-register_at.ensures.contents, named) refl;
    }
