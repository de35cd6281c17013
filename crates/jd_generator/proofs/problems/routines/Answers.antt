use Rattle.std.proofs.Common.{◌+◌, ◌%◌, ◌∙◌, arith}
use Rattle.jd_generated.specs.Generated.{in_first, in_second}
use Rattle.jd_generator.specs.Draws.{drawn_as}
use Rattle.jd_generator.proofs.Drawing.{draw-more}
use Rattle.jd_generator.proofs.problems.routines.Goals as goal

pub loop-preserved : goal.loop-preserved
loop-preserved c =
    let same = c.next_state-state.ensures in
    let is = c.draw_at-draw.ensures in
    let first_more = c.append_to_first.ensures.length in
    let second_more = c.append_to_second.ensures.length in
    record {
      first = draw-more in_first (1 + c.args.n % 24) c.loop.counter c.loop.state c.next_state-state.result (drawn_as c.draw_at-draw.result)
          c.loop.first c.append_to_first.new.routine (omega (arith, c.loop-test.true)) same is c.append_to_first.ensures.appended ∙ c.loop.invariant.first;
      second = draw-more in_second (1 + c.args.n % 24) c.loop.counter c.loop.state c.next_state-state.result (drawn_as c.draw_at-draw.result)
          c.loop.second c.append_to_second.new.routine (omega (arith, c.loop-test.true)) same is c.append_to_second.ensures.appended ∙ c.loop.invariant.second;
      first_few = omega (arith, first_more, c.loop.invariant.first_few);
      second_few = omega (arith, second_more, c.loop.invariant.second_few);
      end = c.loop.invariant.end;
      inside = omega (arith, c.loop-test.true);
    }
