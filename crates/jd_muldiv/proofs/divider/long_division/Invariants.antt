-- the literals of the dividend that were read are the quotient times the divisor, and the rest
use Rattle.std.proofs.Common.{◌≡◌, ℕ, ◌+◌, ◌-◌, ◌*◌, ◌<◌, ◌≤◌, Bool, length, drop, min}
use Rattle.jd_circuit.specs.Net.{Grows, Solves}
use Rattle.jd_vectors.specs.Number.{number, AreOf}
use Rattle.jd_muldiv.specs.Steps.{TellTails}
use Rattle.jd_muldiv.proofs.Steps.{Divided}
use Rattle.jd_muldiv.proofs.divider.long_division.Given as goal

abbrev pub invariant-loop-i : goal.invariant-loop-i
invariant-loop-i g l = record {
  grows : Grows l.fn.c l.c;
  tails : AreOf l.c l.tails;
  tells : (val : ℕ → Bool) → Solves l.c val → TellTails val l.b 0 l.tails;
  quotient_length : length l.quotient ≡ l.i;
  rest_length : length l.rest ≡ min l.i (length l.b);
  quotient : AreOf l.c l.quotient;
  rest : AreOf l.c l.rest;
  first : l.i ≡ 0 → length l.c.gates ≤ length l.fn.c.gates + length l.b;
  more : 1 ≤ l.i → length l.c.gates ≤ length l.fn.c.gates + 8 * (l.i * (length l.b + 1));
  number : (val : ℕ → Bool) → Solves l.c val → 0 < number val l.b
      → Divided (number val (drop (length l.a - l.i) l.a)) (number val l.b) (number val l.quotient) (number val l.rest);
}
