use Rattle.std.proofs.Common.{◌∙◌, arith}
use Rattle.jd_inputs.proofs.Inputs.{one_more, none_left}
use Rattle.jd_inputs.proofs.nibbles.input_items.Goals as goal

pub loop-i-preserved : goal.loop-i-preserved
loop-i-preserved c = rw c.in_ok-push.ensures (one_more _ _ _ _ (omega arith)) ∙ c.loop-i.invariant

pub returns : goal.returns
returns c = none_left _ _ _ (omega arith) ∙ c.loop-i.invariant
