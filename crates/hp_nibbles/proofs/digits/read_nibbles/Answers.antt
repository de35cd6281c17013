use Rattle.hp_nibbles.proofs.Sums.{window_is}
use Rattle.hp_nibbles.proofs.digits.read_nibbles.Goals as goal

pub returns : goal.returns
returns c = window_is c.args.bytes.now c.args.first c.args.count c.read_bytes.result c.read_bytes.ensures
