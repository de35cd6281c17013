use Rattle.std.proofs.Common.{◌≡◌, ◌+◌, ap, ◌∙◌, arith, length}
use Rattle.std.proofs.lemmas.List.{length_push}
use Rattle.jd_model.specs.Problems.{free_width}
use Rattle.jd_problem.proofs.FieldLists.{room-turn, numbers-turn}
use Rattle.jd_problem.proofs.problem_fields.read_nibbles.Goals as goal

pub loop-preserved : goal.loop-preserved
loop-preserved c =
    let field = c.args.field.now in
    let bits = c.args.bits.now in
    let loop = c.loop in
    let width : c.from-at.result ≡ free_width field = c.from-at.ensures ∙ c.free_width.ensures.value in
    record {
      count = ap length c.push.ensures ∙ length_push loop.nibbles c.number.result ∙ ap (λ n. n + 1) loop.invariant.count;
      room = omega (arith, width, room-turn field c.args.count loop.counter c.loop-test.true loop.at (length bits) loop.invariant.room);
      same = rw (c.push.ensures, c.number.ensures.value, width) (numbers-turn field c.args.count loop.counter c.loop-test.true loop.nibbles bits loop.at ∙ loop.invariant.same);
    }
