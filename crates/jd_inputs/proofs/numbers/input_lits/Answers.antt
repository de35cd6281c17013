use Rattle.std.proofs.Common.{◌∙◌, arith, length-append}
use Rattle.jd_inputs.proofs.Inputs.{one_more, none_left}
use Rattle.jd_inputs.proofs.numbers.input_lits.Goals as goal

pub loop-i-preserved : goal.loop-i-preserved
loop-i-preserved c = record {
  digits = rw c.push.ensures (simp length-append (omega arith));
  whole = rw c.push.ensures (one_more _ _ _ _ (omega arith)) ∙ c.loop-i.invariant.whole;
}

pub returns : goal.returns
returns c = none_left _ _ _ (omega arith) ∙ c.loop-i.invariant.whole
