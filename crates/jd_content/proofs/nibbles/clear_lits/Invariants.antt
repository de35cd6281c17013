use Rattle.std.proofs.Common.{◌≡◌, ◌++◌, replicate, drop, false}
use Rattle.jd_circuit.specs.declared.literals.Lit.TheVariants.{Const}
use Rattle.jd_content.proofs.nibbles.clear_lits.Given as goal

abbrev pub invariant-loop-i : goal.invariant-loop-i
invariant-loop-i l = l.items ≡ replicate l.i (Const false) ++ drop l.i l.fn.items
