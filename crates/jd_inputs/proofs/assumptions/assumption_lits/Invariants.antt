use Rattle.std.proofs.Common.{◌≡◌, ℕ, ◌+◌, ◌*◌, ◌≤◌, Bool, length, map, take}
use Rattle.jd_circuit.specs.Meaning.{lit_value}
use Rattle.jd_circuit.specs.Net.{Grows, Solves}
use Rattle.jd_vectors.specs.Number.{AreOf}
use Rattle.jd_model.specs.Assumptions.{holds}
use Rattle.jd_content.specs.Meaning.{data_on}
use Rattle.jd_inputs.proofs.assumptions.assumption_lits.Given as goal

abbrev pub invariant-loop-i : goal.invariant-loop-i
invariant-loop-i g l = record {
  grows : Grows l.fn.c l.c;
  count : length l.lits ≡ l.i;
  of : AreOf l.c l.lits;
  more : length l.c.gates ≤ length l.fn.c.gates + 320 * l.i;
  means : (val : ℕ → Bool) → Solves l.c val → map (lit_value val) l.lits ≡ map (λ a. holds a (data_on val l.content)) (take l.i l.assumed);
}
