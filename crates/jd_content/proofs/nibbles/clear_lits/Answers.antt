use Rattle.std.proofs.Common.{set, false, ap, ◌∙◌, arith, add-one}
use Rattle.jd_circuit.specs.declared.literals.Lit.TheVariants.{Const}
use Rattle.jd_content.proofs.Lists.{clear_turn}
use Rattle.jd_content.proofs.nibbles.clear_lits.Goals as goal

pub loop-i-preserved : goal.loop-i-preserved
loop-i-preserved c = rw (add-one c.loop-i.i) (ap (λ ls. set ls c.loop-i.i (Const false)) c.loop-i.invariant ∙ clear_turn c.args.items.now c.loop-i.i (omega arith))
