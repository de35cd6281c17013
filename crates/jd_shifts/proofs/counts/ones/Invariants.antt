-- how many of the literals so far are true
use Rattle.std.proofs.Common.{◌≡◌, ℕ, ◌+◌, ◌*◌, ◌≤◌, Bool, length, take}
use Rattle.jd_circuit.specs.Net.{Grows, Solves}
use Rattle.jd_vectors.specs.Number.{number, AreOf}
use Rattle.jd_shifts.specs.Moves.{trues}
use Rattle.jd_shifts.proofs.counts.ones.Given as goal

abbrev pub invariant-loop-i : goal.invariant-loop-i
invariant-loop-i g l = record {
  grows : Grows l.fn.c l.c;
  size : length l.count ≡ 8;
  of : AreOf l.c l.count;
  more : length l.c.gates ≤ length l.fn.c.gates + 40 * l.i;
  number : (val : ℕ → Bool) → Solves l.c val → (number val l.count ≡ trues val (take (2 * l.i) l.a)) × (number val l.count ≤ 2 * l.i);
}
