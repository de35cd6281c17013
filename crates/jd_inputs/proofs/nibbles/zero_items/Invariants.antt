use Rattle.std.proofs.Common.{◌≡◌, replicate, false}
use Rattle.jd_circuit.specs.declared.literals.Lit.TheVariants.{Const}
use Rattle.jd_inputs.proofs.nibbles.zero_items.Given as goal

abbrev pub invariant-loop-i : goal.invariant-loop-i
invariant-loop-i l = l.items.items ≡ replicate l.i (Const false)
