-- Registers that are cleared.
use Rattle.std.proofs.Common.{◌≡◌, ℕ, zero, suc, ◌*◌, ◌/◌, Bool, false, List, ◌∷◌, length, replicate, take, drop, refl, sym, ap, ◌∙◌, arith}
use Rattle.std.proofs.lemmas.List.{length-replicate}
use Rattle.hp_model.specs.Lists.{tabulated, tabulated_from}
use Rattle.hp_model.proofs.Tabulated.{same_tabulated, length-tabulated}
use Rattle.jd_circuit.specs.declared.literals.Lit.{Lit}
use Rattle.jd_circuit.specs.declared.literals.Lit.TheVariants.{Const}
use Rattle.jd_vectors.specs.Number.{number, Inside}
use Rattle.jd_content.specs.Meaning.{nibble_on, nibbles_on}

falses : (val : ℕ → Bool) (n j k : ℕ) → number val (take k (drop j (replicate n (Const false)))) ≡ 0
falses val zero zero zero = refl
falses val zero zero (suc k) = refl
falses val zero (suc j) zero = refl
falses val zero (suc j) (suc k) = refl
falses val (suc n) zero zero = refl
falses val (suc n) zero (suc k) = omega (arith, falses val n zero k)
falses val (suc n) (suc j) k = falses val n j k

zeros : (first n : ℕ) → tabulated_from (λ j. 0) first n ≡ replicate n 0
zeros first zero = refl
zeros first (suc n) = ap (λ ns. 0 ∷ ns) (zeros (suc first) n)

pub cleared : (val : ℕ → Bool) (ls : List Lit) → nibbles_on val (replicate (length ls) (Const false)) ≡ replicate (length (nibbles_on val ls)) 0
cleared val ls =
    ap (λ k. tabulated (nibble_on val (replicate (length ls) (Const false))) (k / 4)) (length-replicate (length ls) (Const false))
    ∙ same_tabulated (nibble_on val (replicate (length ls) (Const false))) (λ j. 0) (length ls / 4) (λ j below. falses val (length ls) (4 * j) 4)
    ∙ zeros 0 (length ls / 4)
    ∙ ap (λ k. replicate k 0) (sym (length-tabulated (nibble_on val ls) (length ls / 4)))

pub inside_falses : (m n : ℕ) → Inside m (replicate n (Const false))
inside_falses m zero = record { from_one = omega arith; to_last = omega arith }
inside_falses m (suc n) =
    let rest = inside_falses m n in
    record { from_one = omega arith; to_last = omega arith }
