-- Marks of variables, one for each in their order.
use Rattle.std.specs.Prelude.{◌≡◌, ◌⊎◌, ℕ, ◌+◌, ◌-◌, ◌<◌, ◌≤◌, Bool, true, false, ◌&&◌, List, All, if◌then◌else◌, length, slice_index_or, slice_set}
use Rattle.jd_circuit.specs.declared.literals.Lit.{Lit}
use Rattle.jd_circuit.specs.declared.literals.Lit.TheVariants.{Const, Var, Not}
use Rattle.jd_circuit.specs.declared.literals.Gate.{Gate}
use Rattle.jd_circuit.specs.declared.literals.Gate.TheVariants.{And, Xor}
use Rattle.jd_circuit.specs.Meaning.{variable}
use Rattle.jd_circuit.specs.Net.{at}
use Rattle.jd_books.specs.Leaves.{Leaf}

-- the gate at a place
abbrev pub gate_at : List Gate → ℕ → Gate
gate_at gates k = slice_index_or gates k (And (Const false) (Const false))

-- whether a literal's variable is marked
abbrev pub is_marked : List Bool → Lit → Bool
is_marked marks (Const b) = true
is_marked marks (Var v) = at marks v
is_marked marks (Not v) = at marks v

abbrev pub are_marked : List Bool → Gate → Bool
are_marked marks (And a b) = is_marked marks a && is_marked marks b
are_marked marks (Xor a b) = is_marked marks a && is_marked marks b

-- the marks with one more
abbrev pub with_mark : List Bool → Lit → List Bool
with_mark marks (Const b) = marks
with_mark marks (Var v) = slice_set marks (v - 1) true
with_mark marks (Not v) = slice_set marks (v - 1) true

abbrev pub with_arguments : List Bool → Gate → List Bool
with_arguments marks (And a b) = with_mark (with_mark marks a) b
with_arguments marks (Xor a b) = with_mark (with_mark marks a) b

-- the marks after a gate, with those of its arguments where it is marked itself
abbrev pub passed : List Bool → ℕ → Gate → List Bool
passed marks before gate = if slice_index_or marks before false then with_arguments marks gate else marks

-- what is marked stays marked
abbrev pub IsGrown : List Bool → List Bool → Type 0
IsGrown old new = (v : ℕ) → at old v ≡ true → at new v ≡ true

-- the arguments of each marked gate, from a place on, are marked
abbrev pub IsClosed : ℕ → List Gate → ℕ → List Bool → Type 0
IsClosed inputs gates from marks = (k : ℕ) → from ≤ k → k < length gates → at marks (inputs + k + 1) ≡ true → are_marked marks (gate_at gates k) ≡ true

-- one of some literals is of a variable
abbrev pub AreNaming : List Lit → ℕ → Type 0
AreNaming ls v = (i : ℕ) × (i < length ls) × (variable (slice_index_or ls i (Const true)) ≡ v)

-- an argument of a gate is of a variable
abbrev pub HasArgument : Gate → ℕ → Type 0
HasArgument (And a b) v = (variable a ≡ v) ⊎ (variable b ≡ v)
HasArgument (Xor a b) v = (variable a ≡ v) ⊎ (variable b ≡ v)

-- a marked gate has an argument of a variable
abbrev pub IsForGate : ℕ → List Gate → List Bool → ℕ → Type 0
IsForGate inputs gates marks v = (j : ℕ) × (j < length gates) × (at marks (inputs + j + 1) ≡ true) × HasArgument (gate_at gates j) v

-- what guards and difference stand on is marked, and nothing else
pub record AreMarks (l : Leaf) (marks : List Bool) : Type 0 where
  pub all : length marks ≡ l.inputs + length l.gates
  pub guards : All (λ g. is_marked marks g ≡ true) l.guards
  pub diff : is_marked marks l.diff ≡ true
  pub closed : IsClosed l.inputs l.gates 0 marks
  pub only : (v : ℕ) → 1 ≤ v → at marks v ≡ true → AreNaming l.guards v ⊎ ((variable l.diff ≡ v) ⊎ IsForGate l.inputs l.gates marks v)
