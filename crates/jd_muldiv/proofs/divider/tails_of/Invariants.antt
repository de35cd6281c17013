-- the tails so far, of which the last is the lowest
use Rattle.std.proofs.Common.{◌≡◌, ℕ, ◌+◌, ◌-◌, ◌≤◌, Bool, length, drop, nat_lt}
use Rattle.jd_circuit.specs.Meaning.{lit_value}
use Rattle.jd_circuit.specs.Net.{IsOf, Grows, Solves}
use Rattle.jd_vectors.specs.Number.{number, AreOf}
use Rattle.jd_muldiv.specs.Steps.{TellTails}
use Rattle.jd_muldiv.proofs.divider.tails_of.Given as goal

abbrev pub invariant-loop-i : goal.invariant-loop-i
invariant-loop-i g l = record {
  grows : Grows l.fn.c l.c;
  digits : length l.tails ≡ l.i + 1;
  tails : AreOf l.c l.tails;
  tail : IsOf l.c l.tail;
  more : length l.c.gates ≤ length l.fn.c.gates + l.i;
  last : (val : ℕ → Bool) → Solves l.c val → lit_value val l.tail ≡ nat_lt 0 (number val (drop (length l.b - l.i) l.b));
  number : (val : ℕ → Bool) → Solves l.c val → TellTails val l.b (length l.b - l.i) l.tails;
}
