use Rattle.std.proofs.Common.{◌≡◌, ℕ, ◌+◌, ◌*◌, ◌≤◌, Bool, length}
use Rattle.std.specs.Prelude.{bytes_eq}
use Rattle.hp_model.specs.Lists.{tabulated}
use Rattle.jd_circuit.specs.Meaning.{lit_value}
use Rattle.jd_circuit.specs.Net.{Grows, IsOf, Solves}
use Rattle.jd_content.specs.Meaning.{nibble_on}
use Rattle.jd_difference.proofs.memory.same_memory.Given as goal

abbrev pub invariant-loop-place : goal.invariant-loop-place
invariant-loop-place g l = record {
  grows : Grows l.fn.c l.c;
  of : IsOf l.c l.all;
  more : length l.c.gates ≤ length l.fn.c.gates + 9 * l.place;
  means : (val : ℕ → Bool) → Solves l.c val → lit_value val l.all ≡ bytes_eq (tabulated (nibble_on val l.first) l.place) (tabulated (nibble_on val l.second) l.place);
}
