use Rattle.std.proofs.Common.{◌≡◌, arith, refl}
use Rattle.hp_core.proofs.registers.exchange_through.Goals as goal

pub returns-in-Some : goal.returns-in-Some
returns-in-Some c =
    let named : c.in-Some.r ≡ c.args.machine.now.content.i = omega (arith, c.in-Some.ensures) in
    let none = c.answer_index.ensures.no_error (omega (arith, c.in-Some.ensures)) in
    record {
      control = c.exchange_at.ensures.control;
      answers = c.answer_index.ensures.value;
      contents = rw (none, c.exchange_at.ensures.contents, named) refl;
    }
