-- Literals of assumptions, one after another.
use Rattle.std.proofs.Common.{◌≡◌, ℕ, zero, suc, ◌+◌, ◌<◌, Bool, not, nat_le, nat_lt, List, [], ◌∷◌, ◌++◌, length, map, take, get_or, refl, ap, ◌∙◌, arith}
use Rattle.std.proofs.lemmas.Bool.Decides.{nat_tests}
use Rattle.jd_model.specs.declared.assumptions.Assume.{Assume}
use Rattle.jd_circuit.specs.declared.literals.Lit.{Lit}

pub not_less : (m n : ℕ) → not (nat_lt n m) ≡ nat_le m n
not_less m n = grind (arith, nat_tests)

mapped_on : (f : Lit → Bool) (ls : List Lit) (l : Lit) → map f (ls ++ l ∷ []) ≡ map f ls ++ f l ∷ []
mapped_on f [] l = refl
mapped_on f (x ∷ ls) l = ap (λ (bs : List Bool). f x ∷ bs) (mapped_on f ls l)

taken_on : (h : Assume → Bool) (assumed : List Assume) (i : ℕ) (d : Assume) → i < length assumed → map h (take i assumed) ++ h (get_or assumed i d) ∷ [] ≡ map h (take (i + 1) assumed)
taken_on h [] i d within = absurd (omega arith)
taken_on h (a ∷ assumed) zero d within = refl
taken_on h (a ∷ assumed) (suc i) d within =
    let next : suc (i + 1) ≡ suc i + 1 = omega arith in
    ap (λ (bs : List Bool). h a ∷ bs) (taken_on h assumed i d (omega arith)) ∙ ap (λ n. map h (take n (a ∷ assumed))) next

-- one more literal for one more assumption
pub held_on : (f : Lit → Bool) (h : Assume → Bool) (ls : List Lit) (l : Lit) (assumed : List Assume) (i : ℕ) (d : Assume) → i < length assumed
    → map f ls ≡ map h (take i assumed) → f l ≡ h (get_or assumed i d) → map f (ls ++ l ∷ []) ≡ map h (take (i + 1) assumed)
held_on f h ls l assumed i d within before here =
    mapped_on f ls l ∙ ap (λ (bs : List Bool). bs ++ f l ∷ []) before ∙ ap (λ (b : Bool). map h (take i assumed) ++ b ∷ []) here ∙ taken_on h assumed i d within
