-- Moves and counts, worked by computation.
use Rattle.std.proofs.Common.{◌≡◌, ℕ, Bool, true, false, [], ◌∷◌, refl, arith}
use Rattle.jd_circuit.specs.declared.literals.Lit.TheVariants.{Const, Var, Not}
use Rattle.jd_shifts.specs.Moves.{Justified, Staged, moved_round, trues}

-- 0101 by one place is 1010, and 00101 by three is 01001
by_one : moved_round 4 1 5 ≡ 10
by_one = refl

by_three : moved_round 5 3 5 ≡ 9
by_three = refl

by_none : moved_round 5 0 5 ≡ 5
by_none = refl

by_all : moved_round 5 5 5 ≡ 5
by_all = refl

-- 11 has three ones
three : (val : ℕ → Bool) → trues val (Const true ∷ Const true ∷ Const false ∷ Const true ∷ []) ≡ 3
three val = refl

-- 00000101 moved up by four places where they are free, and by five to the top
up_four : Staged 8 4 5 true 80
up_four = record { moved = refl; enough = λ h. omega arith }

to_the_top : Justified 8 5 5 160
to_the_top = record {
  moved = refl;
  top = λ h. omega arith;
  none = λ h. cc;
}

of_zero : Justified 8 0 0 0
of_zero = record {
  moved = refl;
  top = λ h. absurd (omega (arith, h));
  none = λ h. refl;
}
