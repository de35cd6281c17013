-- with the inputs that are left, these are all
use Rattle.std.proofs.Common.{◌≡◌, ◌+◌, ◌-◌, ◌++◌}
use Rattle.jd_inputs.specs.Inputs.{inputs_from}
use Rattle.jd_inputs.proofs.nibbles.input_items.Given as goal

abbrev pub invariant-loop-i : goal.invariant-loop-i
invariant-loop-i l = l.items.items ++ inputs_from (l.count - l.i) (l.taken + l.i) ≡ inputs_from l.count l.taken
