use Rattle.std.proofs.Common.{List, ℕ, ap}
use Rattle.jd_content.specs.Meaning.{data_on}
use Rattle.jd_content.proofs.Cleared.{cleared, inside_falses}
use Rattle.jd_content.proofs.registers.change_by_clear.Goals as goal

pub returns-clause-meaning : goal.returns-clause-meaning
returns-clause-meaning c = λ k given val.
    ap (λ (ns : List ℕ). record (data_on val c.args.content.now) { nibbles = ns }) (rw c.clear.ensures (cleared val c.args.content.now.nibbles))

pub returns-clause-fits : goal.returns-clause-fits
returns-clause-fits c = λ n w h. record {
  x = h.x;
  y = h.y;
  z = h.z;
  t = h.t;
  l = h.l;
  i = h.i;
  flags = h.flags;
  nibbles = rw c.clear.ensures (inside_falses n _);
}
