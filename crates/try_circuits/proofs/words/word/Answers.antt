use Rattle.std.proofs.Common.{length-append, arith}
use Rattle.jd_vectors.proofs.Kept.{Inside-push}
use Rattle.try_circuits.proofs.words.word.Goals as goal

pub loop-i-preserved : goal.loop-i-preserved
loop-i-preserved c = record {
  digits = rw c.push.ensures (simp length-append (omega arith));
  inside = λ n. rw c.push.ensures (Inside-push n _ _ (c.loop-i.invariant.inside n) (omega arith, omega arith));
}
