use Rattle.std.proofs.lemmas.Nat.{and_mask}
use Rattle.hp_core.proofs.words.masked.Goals as goal

pub returns-clause-value : goal.returns-clause-value
returns-clause-value c = rw c.mask.ensures (and_mask c.args.n c.args.size.bits)
