-- Which gates are marked and kept, worked by computation.
use Rattle.std.proofs.Common.{◌≡◌, ℕ, suc, Bool, true, false, List, [], ◌∷◌, ◌++◌, length, refl, arith}
use Rattle.jd_circuit.specs.declared.literals.Lit.TheVariants.{Const, Var, Not}
use Rattle.jd_circuit.specs.declared.literals.Gate.{Gate}
use Rattle.jd_circuit.specs.declared.literals.Gate.TheVariants.{And, Xor}
use Rattle.jd_circuit.specs.Net.{eval}
use Rattle.jd_cones.specs.Marks.{with_mark, passed}
use Rattle.jd_cones.specs.Renaming.{renamed, number_after, gates_after}

-- two inputs, and two gates that don't stand on one another
abbrev apart : List Gate
apart = And (Var 1) (Var 2) ∷ Xor (Var 1) (Not 2) ∷ []

-- and one gate more, over the second
abbrev over : List Gate
over = And (Var 1) (Var 2) ∷ Xor (Var 1) (Not 2) ∷ And (Not 4) (Var 1) ∷ []

abbrev none_yet : List Bool
none_yet = false ∷ false ∷ false ∷ false ∷ []

-- the marks after all gates, the last one first
abbrev marks_back : ℕ → List Gate → List Bool → List Bool
marks_back before [] marks = marks
marks_back before (g ∷ gs) marks = passed (marks_back (suc before) gs marks) before g

-- the kept gates and the numbers after all gates
abbrev kept_along : List Bool → List ℕ → List Gate → List Gate → List Gate
kept_along marks numbers kept [] = kept
kept_along [] numbers kept (g ∷ gs) = kept
kept_along (m ∷ marks) numbers kept (g ∷ gs) = kept_along marks (numbers ++ number_after 2 kept m ∷ []) (gates_after numbers kept g m) gs

abbrev numbers_along : List Bool → List ℕ → List Gate → List Gate → List ℕ
numbers_along marks numbers kept [] = numbers
numbers_along [] numbers kept (g ∷ gs) = numbers
numbers_along (m ∷ marks) numbers kept (g ∷ gs) = numbers_along marks (numbers ++ number_after 2 kept m ∷ []) (gates_after numbers kept g m) gs

abbrev inputs : List ℕ
inputs = 1 ∷ 2 ∷ []

-- no gate is needed where the difference is an input
input_alone : marks_back 2 apart (with_mark none_yet (Not 1)) ≡ true ∷ false ∷ false ∷ false ∷ []
input_alone = refl

none_kept : kept_along (false ∷ false ∷ []) inputs [] apart ≡ []
none_kept = refl

-- the second of two gates
second_needed : marks_back 2 apart (with_mark none_yet (Var 4)) ≡ true ∷ true ∷ false ∷ true ∷ []
second_needed = refl

second_kept : kept_along (false ∷ true ∷ []) inputs [] apart ≡ Xor (Var 1) (Not 2) ∷ []
second_kept = refl

second_renamed : renamed (numbers_along (false ∷ true ∷ []) inputs [] apart) (Not 4) ≡ Not 3
second_renamed = refl

-- a gate that only another gate needs, under its new number
through_a_gate : marks_back 2 over (with_mark (none_yet ++ false ∷ []) (Var 5)) ≡ true ∷ true ∷ false ∷ true ∷ true ∷ []
through_a_gate = refl

both_kept : kept_along (false ∷ true ∷ true ∷ []) inputs [] over ≡ Xor (Var 1) (Not 2) ∷ And (Not 3) (Var 1) ∷ []
both_kept = refl

-- all are needed, and the list stays
guard_and_difference : marks_back 2 apart (with_mark (with_mark none_yet (Not 3)) (Var 4)) ≡ true ∷ true ∷ true ∷ true ∷ []
guard_and_difference = refl

all_kept : kept_along (true ∷ true ∷ []) inputs [] apart ≡ apart
all_kept = refl

-- a cut: the guards alone, since the difference is a constant
guards_alone : marks_back 2 apart (with_mark (with_mark none_yet (Var 3)) (Const true)) ≡ true ∷ true ∷ true ∷ false ∷ []
guards_alone = refl

true_stays : renamed (numbers_along (true ∷ false ∷ []) inputs [] apart) (Const true) ≡ Const true
true_stays = refl

-- the difference means the same on all bits
same_meaning : (bits : List Bool) → length bits ≡ 2 → eval (record { inputs = 2; gates = Xor (Var 1) (Not 2) ∷ [] }) bits (Not 3) ≡ eval (record { inputs = 2; gates = apart }) bits (Not 4)
same_meaning [] e = absurd (omega (arith, e))
same_meaning (a ∷ []) e = absurd (omega (arith, e))
same_meaning (a ∷ b ∷ []) e = refl
same_meaning (a ∷ b ∷ c ∷ rest) e = absurd (omega (arith, e))
