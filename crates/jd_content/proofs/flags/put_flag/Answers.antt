use Rattle.std.proofs.Common.{Bool, List, ap, arith}
use Rattle.jd_circuit.specs.declared.literals.Lit.TheVariants.{Const}
use Rattle.jd_content.specs.Meaning.{data_on}
use Rattle.jd_content.proofs.Contents.{flag_set, inside_set}
use Rattle.jd_content.proofs.flags.put_flag.Goals as goal

pub returns-clause-meaning : goal.returns-clause-meaning
returns-clause-meaning c = λ val. ap (λ (f : List Bool). record (data_on val c.args.content.now) { flags = f }) (flag_set val c.args.content.now.flags c.args.number (Const c.args.set))

pub returns-clause-fits : goal.returns-clause-fits
returns-clause-fits c = λ n w h. record {
  x = h.x;
  y = h.y;
  z = h.z;
  t = h.t;
  l = h.l;
  i = h.i;
  nibbles = h.nibbles;
  flags = inside_set n _ c.args.number _ h.flags (omega arith, omega arith);
}
