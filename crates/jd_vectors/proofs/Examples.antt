-- Numbers of literals, worked by computation.
use Rattle.std.proofs.Common.{◌≡◌, ℕ, Bool, List, [], ◌∷◌, true, false, refl}
use Rattle.jd_circuit.specs.declared.literals.Lit.{Lit}
use Rattle.jd_circuit.specs.declared.literals.Lit.TheVariants.{Const, Var, Not}
use Rattle.jd_vectors.specs.Number.{number, bitwise_of, plain, turned}
use Rattle.jd_vectors.specs.declared.bits.Bitwise.TheVariants.{And, Or, Xor}

-- the lowest literal comes first
five : (val : ℕ → Bool) → number val (Const true ∷ Const false ∷ Const true ∷ []) ≡ 5
five val = refl

of_a_variable : number (λ v. true) (Var 1 ∷ Not 1 ∷ Const true ∷ []) ≡ 5
of_a_variable = refl

none : (val : ℕ → Bool) → number val [] ≡ 0
none val = refl

both : bitwise_of And 12 10 ≡ 8
both = refl

either : bitwise_of Or 12 10 ≡ 14
either = refl

one_alone : bitwise_of Xor 12 10 ≡ 6
one_alone = refl

outside : turned true (plain (Not 3)) ≡ Not 3
outside = refl
