-- with the inputs that are left, these are all
use Rattle.std.proofs.Common.{◌≡◌, ◌+◌, ◌-◌, ◌++◌, length}
use Rattle.jd_inputs.specs.Inputs.{inputs_from}
use Rattle.jd_inputs.proofs.numbers.input_lits.Given as goal

abbrev pub invariant-loop-i : goal.invariant-loop-i
invariant-loop-i l = record {
  digits : length l.lits ≡ l.i;
  whole : l.lits ++ inputs_from (l.width - l.i) (l.taken + l.i) ≡ inputs_from l.width l.taken;
}
