use Rattle.std.proofs.Common.{◌∙◌, sym, refl, lit≤}
use Rattle.std.proofs.Math.Nat.{one-le-pow}
use Rattle.hp_ops.specs.Meaning.{operation}
use Rattle.hp_control.specs.Controls.{control_of}
use Rattle.hp_control.proofs.Erring.{step_errs}
use Rattle.hp_control.proofs.step.step_control.Goals as goal

pub returns-in-Some : goal.returns-in-Some
returns-in-Some g c =
    let before = control_of c.args.control.now (g.P.Program.listing c.args.program.now) in
    record {
      step = step_errs before (operation c.args.op) c.args.given.now c.in-Some.error (sym c.error_of.ensures ∙ c.in-Some.is) ∙ rw (c.fail.ensures.control, c.fail.ensures.stop) refl;
      bounds = record {
        window = rw c.fail.ensures.control c.requires.bounds.window;
        line = rw c.fail.ensures.control c.requires.bounds.line;
        calls = rw c.fail.ensures.control c.requires.bounds.calls;
        entry = rw c.fail.ensures.control (one-le-pow c.args.control.now.size.bits 2 (lit≤ tt));
      };
    }
