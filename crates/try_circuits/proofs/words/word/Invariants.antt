-- so many constants so far
use Rattle.std.proofs.Common.{◌≡◌, ℕ, length}
use Rattle.jd_vectors.specs.Number.{Inside}
use Rattle.try_circuits.proofs.words.word.Given as goal

abbrev pub invariant-loop-i : goal.invariant-loop-i
invariant-loop-i l = record {
  digits : length l.lits ≡ l._i;
  inside : (n : ℕ) → Inside n l.lits;
}
