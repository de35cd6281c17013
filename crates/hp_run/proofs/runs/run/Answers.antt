use Rattle.std.proofs.Common.{refl, ap, sym, ◌∙◌}
use Rattle.hp_model.proofs.Runs.{run-left, run-over}
use Rattle.hp_model.specs.Run.{Step}
use Rattle.hp_run.proofs.runs.run.Goals as goal

pub loop-preserved : goal.loop-preserved
loop-preserved c =
    let done = c.in-Go.ensures.done in
    record {
      so_far = run-left _ _ _ _ _ c.loop-test.true (ap (λ (s : Step). s.stop) (sym done)) (ap (λ (s : Step). s.machine) (sym done)) c.loop.invariant.so_far;
      lines = record {
        program = c.in-Go.ensures.lines.program ∙ c.loop.invariant.lines.program;
        blocks = c.in-Go.ensures.lines.blocks ∙ c.loop.invariant.lines.blocks;
      };
      from_a_line = c.in-Go.ensures.goes_on refl;
    }

pub returns-in-Ended-clause-run : goal.returns-in-Ended-clause-run
returns-in-Ended-clause-run c =
    let done = c.in-Ended.ensures.done in
    run-over _ _ _ _ _ _ c.loop-test.true (ap (λ (s : Step). s.stop) (sym done)) (ap (λ (s : Step). s.machine) (sym done)) c.loop.invariant.so_far
