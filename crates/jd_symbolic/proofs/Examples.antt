-- Machines on lists of bits, worked by computation.
use Rattle.std.proofs.Common.{◌≡◌, true, false, [], ◌∷◌, None, replicate, refl}
use Rattle.hp_model.specs.declared.Base.TheVariants.{Hex}
use Rattle.hp_model.specs.declared.Extent.TheVariants.{Standard}
use Rattle.hp_model.specs.declared.Mode.TheVariants.{Twos}
use Rattle.hp_model.specs.Operations as ops
use Rattle.jd_circuit.specs.declared.literals.Lit.TheVariants.{Var, Not}
use Rattle.jd_circuit.specs.declared.literals.Gate.TheVariants.{And, Xor}
use Rattle.jd_circuit.specs.Net.{Net}
use Rattle.jd_model.specs.Problems.{Problem}
use Rattle.jd_symbolic.specs.declared.machine.SymMachine.{SymMachine}
use Rattle.jd_symbolic.specs.Machine.{AsksOnBits, StepsOnBits, routine_of, val_of}

-- two inputs, their product and the negation's sum with the first
abbrev net : Net
net = record { inputs = 2; gates = And (Var 1) (Var 2) ∷ Xor (Var 1) (Not 3) ∷ [] }

of_an_input : val_of net (true ∷ false ∷ []) 1 ≡ true
of_an_input = refl

of_a_gate : val_of net (true ∷ true ∷ []) 3 ≡ true
of_a_gate = refl

of_a_later_gate : val_of net (true ∷ true ∷ []) 4 ≡ true
of_a_later_gate = refl

-- the routine of each run
abbrev problem : Problem
problem = record {
  size = 8;
  mode = Twos;
  base = Hex;
  memory = Standard;
  steps = 1;
  paths = 1;
  budget = 1;
  observed = replicate 13 true;
  fixed = replicate 13 None;
  assumed = [];
  first = 1 ∷ [];
  second = 2 ∷ 3 ∷ [];
}

of_the_first : routine_of problem false ≡ 1 ∷ []
of_the_first = refl

of_the_second : routine_of problem true ≡ 2 ∷ 3 ∷ []
of_the_second = refl

-- a digit asks nothing, and a label changes no data
digit_asks_nothing : (m : SymMachine) → AsksOnBits net net m (ops.digit 7) [] None
digit_asks_nothing m = refl

label_changes_nothing : (m : SymMachine) → StepsOnBits net net m m (ops.label 3) []
label_changes_nothing m = λ bits size given. refl
