-- so many inputs so far
use Rattle.std.proofs.Common.{◌≡◌, length}
use Rattle.jd_vectors.specs.Number.{Inside}
use Rattle.try_circuits.proofs.words.inputs.Given as goal

abbrev pub invariant-loop-i : goal.invariant-loop-i
invariant-loop-i l = record {
  digits : length l.lits ≡ l.i;
  inside : Inside l.i l.lits;
}
