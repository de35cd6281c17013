use Rattle.std.proofs.Common.{◌≡◌, take}
use Rattle.jd_short.proofs.differences.copy_of.Given as goal

abbrev pub invariant-loop-nibble : goal.invariant-loop-nibble
invariant-loop-nibble l = l.nibbles ≡ take l.nibble-index l.nibble-items
