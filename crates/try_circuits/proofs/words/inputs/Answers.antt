use Rattle.std.proofs.Common.{◌+◌, length-append, arith}
use Rattle.jd_vectors.proofs.Kept.{Inside-more, Inside-push}
use Rattle.try_circuits.proofs.words.inputs.Goals as goal

pub loop-i-preserved : goal.loop-i-preserved
loop-i-preserved c =
    let i = c.loop-i.i in
    let before = Inside-more i (i + 1) c.loop-i.lits (omega arith) c.loop-i.invariant.inside in
    record {
      digits = rw c.push.ensures (simp length-append (omega arith));
      inside = rw c.push.ensures (Inside-push (i + 1) _ _ before (omega arith, omega arith));
    }
