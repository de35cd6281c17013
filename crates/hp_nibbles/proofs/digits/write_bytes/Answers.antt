use Rattle.hp_nibbles.proofs.Halves.{bytes_step}
use Rattle.hp_nibbles.proofs.digits.write_bytes.Goals as goal

pub loop-j-preserved : goal.loop-j-preserved
loop-j-preserved c = bytes_step _ _ _ c.args.from c.loop-j.j c.args.v c.loop-j.invariant c.put_byte.ensures.lower c.put_byte.ensures.upper c.put_byte.ensures.others
