-- That gates are wired has at most one proof, so a leaf may keep it.
use Rattle.std.specs.Prelude.{ℕ, ◌+◌, List, [], ◌∷◌}
use Rattle.std.specs.Coded.{×_prop, Unit-prop, le_prop}
use Rattle.jd_circuit.specs.declared.literals.Lit.{Lit}
use Rattle.jd_circuit.specs.declared.literals.Gate.{Gate}
use Rattle.jd_circuit.specs.declared.literals.Gate.TheVariants.{And, Xor}
use Rattle.jd_circuit.specs.Net.{IsArgument, IsArgumentGate, IsWired}

IsArgument-prop : (n : ℕ) (l : Lit) → IsProp (IsArgument n l)
IsArgument-prop n l = ×_prop le_prop le_prop

IsArgumentGate-prop : (n : ℕ) (g : Gate) → IsProp (IsArgumentGate n g)
IsArgumentGate-prop n (And a b) = ×_prop (IsArgument-prop n a) (IsArgument-prop n b)
IsArgumentGate-prop n (Xor a b) = ×_prop (IsArgument-prop n a) (IsArgument-prop n b)

pub IsWired-prop : (n : ℕ) (gs : List Gate) → IsProp (IsWired n gs)
IsWired-prop n [] = Unit-prop
IsWired-prop n (g ∷ gs) = ×_prop (IsArgumentGate-prop n g) (IsWired-prop (n + 1) gs)
