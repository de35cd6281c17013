use Rattle.std.proofs.Common.{arith}
use Rattle.jd_content.proofs.Lists.{put_turn}
use Rattle.jd_content.proofs.nibbles.put_lits.Goals as goal

pub loop-i-preserved : goal.loop-i-preserved
loop-i-preserved c = rw c.loop-i.invariant (put_turn _ _ c.args.from c.loop-i.i c.at.result (omega arith) c.requires.inside c.at.ensures)
