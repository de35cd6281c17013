-- The cone of a leaf: the same leaf with the gates alone that its guards and its difference stand on.
use Rattle.std.specs.Prelude.{◌≡◌, ◌⊎◌, ℕ, ◌+◌, ◌<◌, ◌≤◌, Bool, true, List, length, map}
use Rattle.jd_circuit.specs.declared.literals.Lit.TheVariants.{Const}
use Rattle.jd_circuit.specs.Meaning.{variable}
use Rattle.jd_circuit.specs.Net.{eval}
use Rattle.jd_books.specs.Leaves.{Leaf, net_of}
use Rattle.jd_cones.specs.Marks.{AreNaming, HasArgument, gate_at}

-- the values of a leaf's guards on some bits
abbrev pub guard_values : Leaf → List Bool → List Bool
guard_values l bits = map (eval (net_of l) bits) l.guards

-- a guard, the difference or a gate after it stands on the gate at a place
abbrev pub IsNeeded : Leaf → ℕ → Type 0
IsNeeded l k = AreNaming l.guards (l.inputs + k + 1) ⊎ ((variable l.diff ≡ l.inputs + k + 1)
    ⊎ ((j : ℕ) × (k < j) × (j < length l.gates) × HasArgument (gate_at l.gates j) (l.inputs + k + 1)))

-- on each list of bits, one for each input, guards and difference are as in the whole leaf, and each gate is needed
pub record IsConeOf (whole cone : Leaf) : Type 0 where
  pub path : cone.path ≡ whole.path
  pub inputs : cone.inputs ≡ whole.inputs
  pub kind : cone.kind ≡ whole.kind
  pub guards : (bits : List Bool) → length bits ≡ whole.inputs → guard_values cone bits ≡ guard_values whole bits
  pub diff : (bits : List Bool) → length bits ≡ whole.inputs → eval (net_of cone) bits cone.diff ≡ eval (net_of whole) bits whole.diff
  pub true_stays : whole.diff ≡ Const true → cone.diff ≡ Const true
  pub fewer : length cone.gates ≤ length whole.gates
  pub needed : (k : ℕ) → k < length cone.gates → IsNeeded cone k
