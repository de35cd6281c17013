-- New numbers of variables, one for each in their order.
use Rattle.std.specs.Prelude.{◌≡◌, ℕ, ◌+◌, ◌-◌, ◌<◌, ◌≤◌, Bool, true, List, [], ◌∷◌, ◌++◌, if◌then◌else◌, length, slice_index_or}
use Rattle.jd_circuit.specs.declared.literals.Lit.{Lit}
use Rattle.jd_circuit.specs.declared.literals.Lit.TheVariants.{Const, Var, Not}
use Rattle.jd_circuit.specs.declared.literals.Gate.{Gate}
use Rattle.jd_circuit.specs.declared.literals.Gate.TheVariants.{And, Xor}
use Rattle.jd_circuit.specs.Net.{at, values_of, IsWired}
use Rattle.jd_cones.specs.Marks.{HasArgument, gate_at}

-- a variable's new number
abbrev pub number_in : List ℕ → ℕ → ℕ
number_in numbers v = slice_index_or numbers (v - 1) 0

abbrev pub renamed : List ℕ → Lit → Lit
renamed numbers (Const b) = Const b
renamed numbers (Var v) = Var (number_in numbers v)
renamed numbers (Not v) = Not (number_in numbers v)

abbrev pub renamed_gate : List ℕ → Gate → Gate
renamed_gate numbers (And a b) = And (renamed numbers a) (renamed numbers b)
renamed_gate numbers (Xor a b) = Xor (renamed numbers a) (renamed numbers b)

-- the next variable's number, and the kept gates after it
abbrev pub number_after : ℕ → List Gate → Bool → ℕ
number_after inputs kept needed = if needed then inputs + length kept + 1 else 0

abbrev pub gates_after : List ℕ → List Gate → Gate → Bool → List Gate
gates_after numbers kept gate needed = if needed then kept ++ renamed_gate numbers gate ∷ [] else kept

-- each input has its own number
pub record AreOwn (inputs : ℕ) (numbers : List ℕ) : Type 0 where
  pub all : length numbers ≡ inputs
  pub own : (v : ℕ) → 1 ≤ v → v ≤ inputs → number_in numbers v ≡ v

-- a variable's new number is one of the kept circuit, where it means the same
pub record IsSame (inputs : ℕ) (gates kept : List Gate) (v number : ℕ) : Type 0 where
  pub low : 1 ≤ number
  pub high : number ≤ inputs + length kept
  pub means : (bits : List Bool) → length bits ≡ inputs → at (values_of bits kept) number ≡ at (values_of bits gates) v

-- new numbers of the inputs and of so many gates, of which the marked ones are kept: each kept gate is one of them, with
-- its arguments
pub record IsRenaming (inputs : ℕ) (gates : List Gate) (marks : List Bool) (count : ℕ) (numbers : List ℕ) (kept : List Gate) : Type 0 where
  pub all : length numbers ≡ inputs + count
  pub fewer : length kept ≤ count
  pub wired : IsWired inputs kept
  pub same : (v : ℕ) → 1 ≤ v → v ≤ inputs + count → at marks v ≡ true → IsSame inputs gates kept v (number_in numbers v)
  pub kept_for : (k : ℕ) → k < length kept → (j : ℕ) × (j < count) × (at marks (inputs + j + 1) ≡ true) × (number_in numbers (inputs + j + 1) ≡ inputs + k + 1)
  pub kept_gate : (j : ℕ) → j < count → at marks (inputs + j + 1) ≡ true
      → (k : ℕ) × (k < length kept) × ((v : ℕ) → 1 ≤ v → v ≤ inputs + j → HasArgument (gate_at gates j) v → HasArgument (gate_at kept k) (number_in numbers v))
