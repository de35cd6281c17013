use Rattle.std.proofs.Common.{subst}
use Rattle.hp_model.specs.State.{Control}
use Rattle.hp_model.specs.declared.Stop.{Stop}
use Rattle.hp_control.specs.Controls.{HasSize}
use Rattle.hp_control.proofs.Sizes.{size-after-step}
use Rattle.hp_core.specs.Machines.{control_of}
use Rattle.hp_core.proofs.Fitted.{still_fits}
use Rattle.hp_core.proofs.step.decide.Goals as goal

-- the data is within the word size, whether control changed it or not
pub invariant_of-machine : goal.invariant_of-machine
invariant_of-machine c =
    let old = c.args.machine.now in
    let done = c.step_control.ensures in
    let size = subst (λ (r : Control × Stop). HasSize c.args.op c.args.given.now old.control.size.bits r.0.size) done.step
    (size-after-step (control_of old) c.args.op c.args.given.now) in
    let fits = still_fits c.args.op c.args.given.now old.content _ _
    (record { x = old.x_bound; y = old.y_bound; z = old.z_bound; t = old.t_bound; l = old.l_bound }) c.requires.cut size in
    record {
      window_bound = done.bounds.window;
      line_bound = done.bounds.line;
      calls_bound = done.bounds.calls;
      x_bound = fits.x;
      y_bound = fits.y;
      z_bound = fits.z;
      t_bound = fits.t;
      l_bound = fits.l;
      entry_bound = done.bounds.entry;
    }
