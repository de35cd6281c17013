-- A circuit of two inputs, and what rules may answer, worked by computation.
use Rattle.std.proofs.Common.{◌≡◌, Bool, true, false, Some, None, [], ◌∷◌, refl}
use Rattle.jd_circuit.specs.declared.literals.Lit.TheVariants.{Const, Var, Not}
use Rattle.jd_circuit.specs.declared.literals.Gate.{Gate}
use Rattle.jd_circuit.specs.declared.literals.Gate.TheVariants.{And, Xor}
use Rattle.jd_circuit.specs.Meaning.{simple, swapped}
use Rattle.jd_circuit.specs.Net.{Net, after, adds, are_distinct, eval, literal_of}

abbrev empty : Net
empty = record { inputs = 2; gates = [] }

abbrev both : Gate
both = And (Var 1) (Var 2)

abbrev one : Net
one = after empty both

-- a gate is the variable after the inputs, asked for again or in the other order
the_first : literal_of empty both ≡ Var 3
the_first = refl

asked_again : literal_of one both ≡ Var 3
asked_again = refl

turned : literal_of one (swapped both) ≡ Var 3
turned = refl

stands_once : after one (swapped both) ≡ one
stands_once = refl

another : literal_of one (Xor (Var 3) (Not 1)) ≡ Var 4
another = refl

are_apart : are_distinct (after one (Xor (Var 3) (Not 1))).gates ≡ true
are_apart = refl

twice : are_distinct (both ∷ both ∷ []) ≡ false
twice = refl

-- gates that aren't added
equal_arguments : literal_of empty (Xor (Var 1) (Var 1)) ≡ Const false
equal_arguments = refl

beside_its_negation : simple (And (Not 2) (Var 2)) ≡ Some (Const false)
beside_its_negation = refl

constant_argument : simple (Xor (Const true) (Var 2)) ≡ Some (Not 2)
constant_argument = refl

two_variables : simple (Xor (Not 1) (Var 2)) ≡ None
two_variables = refl

adds_none : adds empty (And (Var 1) (Const true)) ≡ false
adds_none = refl

adds_one : adds empty both ≡ true
adds_one = refl

-- meanings on two bits
on_true_bits : eval one (true ∷ true ∷ []) (Var 3) ≡ true
on_true_bits = refl

on_one_true_bit : eval one (true ∷ false ∷ []) (Var 3) ≡ false
on_one_true_bit = refl

negated : eval one (true ∷ false ∷ []) (Not 3) ≡ true
negated = refl

through_a_gate : eval (after one (Xor (Var 3) (Not 1))) (false ∷ true ∷ []) (Var 4) ≡ true
through_a_gate = refl
