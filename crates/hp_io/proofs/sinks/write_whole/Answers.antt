use Rattle.std.proofs.Common.{ap, ◌+◌, length, arith, drop-drop, length-drop}
use Rattle.std.proofs.lemmas.Grind.{common_steps}
use Rattle.hp_io.proofs.Pieces.{Appends-more}
use Rattle.hp_io.proofs.sinks.write_whole.Goals as goal

pub loop-rest-preserved : goal.loop-rest-preserved
loop-rest-preserved g c =
    let s = c.loop-rest.invariant.so_far in
    record {
      so_far = (
        s.0 + c.in_ok-n.n,
        omega (arith, ap length s.2, length-drop s.0 c.args.bytes.now, c.in_ok-n.ensures.bound),
        grind (arith, common_steps, drop-drop),
        Appends-more _ _ _ _ _ _ s.3 (rw s.2 at c.in_ok-n.ensures.bytes),
      );
      later = omega (arith, c.in_ok-n.ensures.cause.later);
    }
