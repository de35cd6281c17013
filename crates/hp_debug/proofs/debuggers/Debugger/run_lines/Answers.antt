use Rattle.std.proofs.Common.{refl, ap, ◌∙◌}
use Rattle.hp_debug.specs.Debuggers.{Debugger}
use Rattle.hp_debug.proofs.RunLines.{run-ends-after-line, run-breaks-after-line, run-goes-on-after-line}
use Rattle.hp_debug.proofs.debuggers.Debugger.run_lines.Goals as goal

pub returns-in-Ended : goal.returns-in-Ended
returns-in-Ended c =
    run-ends-after-line _ _ _ _ _ _ c.loop-test.true c.in-Ended.ensures.state c.loop.invariant.so_far _ c.in-Ended.ensures.stop

pub returns-in-Some : goal.returns-in-Some
returns-in-Some c =
    run-breaks-after-line _ _ _ _ _ _ c.loop-test.true c.in-Go.ensures.state c.loop.invariant.so_far _ c.in-Go.ensures.stop c.in-Some.ensures

pub loop-preserved : goal.loop-preserved
loop-preserved c =
    record {
      so_far = run-goes-on-after-line _ _ _ _ _ _ c.loop-test.true c.in-Go.ensures.state c.loop.invariant.so_far _ c.in-Go.ensures.stop (c.copy-before.ensures ∙ ap (λ (d : Debugger). d.present) c.self.view_is) c.in-None.ensures;
      mode = c.in-Go.ensures.mode;
      from_a_line = c.in-Go.ensures.goes_on refl;
    }
