use Rattle.std.proofs.Common.{◌≡◌, ℕ, ◌+◌, ◌*◌, ◌≤◌, ◌&&◌, Bool, drop, length}
use Rattle.jd_model.specs.Problems.{content_numbers}
use Rattle.jd_start.specs.Parts.{marks_of}
use Rattle.jd_agreement.specs.Agreement.{same_numbers}
use Rattle.jd_circuit.specs.Meaning.{lit_value}
use Rattle.jd_circuit.specs.Net.{Grows, IsOf, Solves}
use Rattle.jd_content.specs.Meaning.{data_on}
use Rattle.jd_difference.proofs.numbers.same_numbers.Given as goal

abbrev pub invariant-loop-place : goal.invariant-loop-place
invariant-loop-place g l = record {
  grows : Grows l.fn.c l.c;
  of : IsOf l.c l.all;
  more : length l.c.gates ≤ length l.fn.c.gates + 129 * l.place;
  means : (val : ℕ → Bool) → Solves l.c val
      → (lit_value val l.all && same_numbers (drop l.place (marks_of l.observed)) (drop l.place (content_numbers (data_on val l.first))) (drop l.place (content_numbers (data_on val l.second))))
      ≡ same_numbers (marks_of l.observed) (content_numbers (data_on val l.first)) (content_numbers (data_on val l.second));
}
