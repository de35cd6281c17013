-- Inputs mean, on each list of bits, the numbers that the bits say.
use Rattle.std.proofs.Common.{◌≡◌, ℕ, zero, suc, ◌+◌, ◌-◌, ◌<◌, ◌≤◌, Bool, true, false, List, [], ◌∷◌, ◌++◌, append_assoc, length, take, drop, get_or, refl, sym, arith}
use Rattle.std.specs.Prelude.{if◌then◌else◌}
use Rattle.std.proofs.lemmas.List.{append-nil}
use Rattle.std.proofs.Math.Seq.{drop-cons}
use Rattle.hp_model.specs.Words.{number_of_bits}
use Rattle.jd_circuit.specs.declared.literals.Lit.{Lit}
use Rattle.jd_circuit.specs.declared.literals.Lit.TheVariants.{Var}
use Rattle.jd_circuit.specs.Net.{at}
use Rattle.jd_vectors.specs.Number.{number, bit, Inside}
use Rattle.jd_inputs.specs.Inputs.{inputs_from}

bit_is : (b : Bool) → bit b ≡ (if b then 1 else 0)
bit_is true = refl
bit_is false = refl

-- w inputs after k ones mean the number of these bits
pub inputs-number : (bits : List Bool) (w k : ℕ) → k + w ≤ length bits → number (at bits) (inputs_from w k) ≡ number_of_bits (take w (drop k bits))
inputs-number bits zero k h = refl
inputs-number bits (suc w) k h =
    let here : drop k bits ≡ get_or bits k false ∷ drop (suc k) bits = drop-cons bits k false (omega arith) in
    let rest = inputs-number bits w (suc k) (omega arith) in
    let place : suc k - 1 ≡ k = omega arith in
    rw (place, here, rest, bit_is (get_or bits k false)) refl

-- ---- inputs one by one

pub length-inputs : (w k : ℕ) → length (inputs_from w k) ≡ w
length-inputs zero k = refl
length-inputs (suc w) k = omega (arith, length-inputs w (suc k))

pub inside_inputs : (w k n : ℕ) → k + w ≤ n → Inside n (inputs_from w k)
inside_inputs zero k n h = record { from_one = omega arith; to_last = omega arith }
inside_inputs (suc w) k n h =
    let rest = inside_inputs w (suc k) n (omega arith) in
    record { from_one = omega arith; to_last = omega arith }

pub one_more : (lits : List Lit) (w i k : ℕ) → i < w
    → lits ++ Var (k + i + 1) ∷ [] ++ inputs_from (w - (i + 1)) (k + (i + 1)) ≡ lits ++ inputs_from (w - i) (k + i)
one_more lits w i k h =
    let left : w - i ≡ suc (w - (i + 1)) = omega arith in
    let here : k + i + 1 ≡ suc (k + i) = omega arith in
    let next : k + (i + 1) ≡ suc (k + i) = omega arith in
    rw (left, here, next) (append_assoc lits (Var (suc (k + i)) ∷ []) (inputs_from (w - (i + 1)) (suc (k + i))))

pub none_left : (lits : List Lit) (m k : ℕ) → m ≡ 0 → lits ≡ lits ++ inputs_from m k
none_left lits m k e = rw e (sym (append-nil lits))
