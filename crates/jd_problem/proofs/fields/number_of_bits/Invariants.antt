use Rattle.std.proofs.Common.{◌≡◌, ◌-◌, ◌<◌, ◌≤◌, ◌^◌, length, drop}
use Rattle.hp_model.specs.Words.{number_of_bits}
use Rattle.jd_problem.proofs.fields.number_of_bits.Given as goal

abbrev pub invariant-bits : goal.invariant-bits
invariant-bits l = record {
  within : l.left ≤ length l.bits;
  value : l.number ≡ number_of_bits (drop l.left l.bits);
  bound : l.number < 2 ^ (length l.bits - l.left);
}

abbrev pub decreases-bits : goal.decreases-bits
decreases-bits l = l.left
