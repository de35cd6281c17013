use Rattle.std.proofs.Common.{arith}
use Rattle.std.proofs.lemmas.Bool.Decides.{nat_tests}
use Rattle.hp_nibbles.proofs.lines.clear_bytes.Goals as goal

pub returns : goal.returns
returns c = λ b. let h = c.loop-b.invariant b in grind (arith, nat_tests, h)
