-- A word with its top bit turned.
use Rattle.std.proofs.Common.{◌≡◌, ℕ, ◌+◌, ◌-◌, ◌*◌, ◌^◌, ◌<◌, ◌≤◌, Bool, true, false, not, List, [], ◌∷◌, ◌++◌, length, take, slice_get, Some, ap, ◌∙◌, arith}
use Rattle.std.proofs.lemmas.Bool.Decides.{nat_tests}
use Rattle.std.proofs.lemmas.List.{length-take-le}
use Rattle.std.proofs.Math.Seq.{take-length}
use Rattle.jd_circuit.specs.declared.literals.Lit.{Lit}
use Rattle.jd_circuit.specs.Meaning.{lit_value}
use Rattle.jd_vectors.specs.Number.{number, bit}
use Rattle.jd_vectors.proofs.Numbers.{number-push, number-take, number-take_small}
use Rattle.jd_comparisons.specs.Raised.{raised}

turned_top : (P r : ℕ) (b : Bool) → r < P → r + P * bit (not b) ≡ raised P (r + P * bit b)
turned_top P r true h = grind (arith, nat_tests)
turned_top P r false h = grind (arith, nat_tests)

-- the lower bits of x, and above them the opposite of its top bit
pub raised_number : (val : ℕ → Bool) (x : List Lit) (l m : Lit) → 1 ≤ length x → slice_get x (length x - 1) ≡ Some l → lit_value val m ≡ not (lit_value val l)
    → number val (take (length x - 1) x ++ m ∷ []) ≡ raised (2 ^ (length x - 1)) (number val x)
raised_number val x l m some top e =
    let k = length x - 1 in
    let whole : take (k + 1) x ≡ x = (let n : k + 1 ≡ length x = omega arith in ap (λ n. take n x) n) ∙ take-length x in
    let split : number val (take (k + 1) x) ≡ number val (take k x) + 2 ^ k * bit (lit_value val l) = number-take val x k l top (omega arith) in
    let parts = rw whole at split in
    let size : length (take k x) ≡ k = length-take-le k x (omega arith) in
    number-push val (take k x) m ∙ rw (size, e, parts) (turned_top (2 ^ k) (number val (take k x)) (lit_value val l) (number-take_small val x k (omega arith)))
