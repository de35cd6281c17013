-- The count of true literals is the model's count of ones.
use Rattle.std.proofs.Common.{◌≡◌, ℕ, zero, suc, ◌+◌, ◌*◌, ◌/◌, ◌%◌, ◌^◌, Bool, true, false, ◌==◌, List, [], ◌∷◌, length, refl, arith, ap, ◌∙◌, sym}
use Rattle.std.proofs.Math.Nat.{pow-suc, div-div-eq-div-mul}
use Rattle.jd_circuit.specs.declared.literals.Lit.{Lit}
use Rattle.jd_circuit.specs.Meaning.{lit_value}
use Rattle.jd_vectors.specs.Number.{bit, number}
use Rattle.jd_shifts.specs.Moves.{trues}
use Rattle.hp_model.specs.WordOperations.{bit_number, ones_below}

half : (b : Bool) (x : ℕ) → (bit b + 2 * x) / 2 ≡ x
half true x = omega arith
half false x = omega arith

last : (b : Bool) (x : ℕ) → bit_number ((bit b + 2 * x) % 2 == 1) ≡ bit b
last true x = let e : (1 + 2 * x) % 2 ≡ 1 = omega arith in rw e refl
last false x = let e : (0 + 2 * x) % 2 ≡ 0 = omega arith in rw e refl

next_bit : (b : Bool) (x k : ℕ) → (bit b + 2 * x) / 2 ^ suc k ≡ x / 2 ^ k
next_bit b x k =
    let power : 2 ^ suc k ≡ 2 * 2 ^ k = omega (arith, pow-suc 2 k) in
    ap (λ p. (bit b + 2 * x) / p) power ∙ sym (div-div-eq-div-mul (bit b + 2 * x) 2 (2 ^ k)) ∙ ap (λ n. n / 2 ^ k) (half b x)

one_more : (b : Bool) (x k : ℕ) → ones_below (suc k) (bit b + 2 * x) ≡ bit b + ones_below k x
one_more b x zero = let whole : (bit b + 2 * x) / 1 ≡ bit b + 2 * x = omega arith in rw (whole, last b x) (omega arith)
one_more b x (suc k) = rw (next_bit b x k, one_more b x k) (omega arith)

pub trues_are : (val : ℕ → Bool) (ls : List Lit) → ones_below (length ls) (number val ls) ≡ trues val ls
trues_are val [] = refl
trues_are val (l ∷ ls) = one_more (lit_value val l) (number val ls) (length ls) ∙ ap (λ n. bit (lit_value val l) + n) (trues_are val ls)
