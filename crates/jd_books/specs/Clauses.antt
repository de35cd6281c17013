-- The clauses of a circuit's gates and of literals that are to be true. A literal of a clause is a variable's number or
-- its negative.
use Rattle.std.specs.Prelude.{◌≡◌, ℕ, zero, suc, Bool, true, false, not, List, [], ◌∷◌, ◌++◌, ℤ, pos, negsuc}
use Rattle.std.specs.List.{list_any, list_all}
use Rattle.jd_circuit.specs.declared.literals.Lit.{Lit}
use Rattle.jd_circuit.specs.declared.literals.Lit.TheVariants.{Const, Var, Not}
use Rattle.jd_circuit.specs.declared.literals.Gate.{Gate}
use Rattle.jd_circuit.specs.declared.literals.Gate.TheVariants.{And, Xor}
use Rattle.jd_circuit.specs.Meaning.{opposite}

-- ---- clauses

-- a literal as a number
abbrev pub negative_of : ℕ → ℤ
negative_of zero = pos zero
negative_of (suc n) = negsuc n

abbrev pub number_of : Lit → ℤ
number_of (Const b) = pos 0
number_of (Var v) = pos v
number_of (Not v) = negative_of v

-- the clauses that say that variable g is the gate
abbrev pub gate_clauses : ℕ → Gate → List (List ℤ)
gate_clauses g (And a b) =
    (negative_of g ∷ number_of a ∷ []) ∷ (negative_of g ∷ number_of b ∷ [])
    ∷ (pos g ∷ number_of (opposite a) ∷ number_of (opposite b) ∷ []) ∷ []
gate_clauses g (Xor a b) =
    (negative_of g ∷ number_of a ∷ number_of b ∷ [])
    ∷ (negative_of g ∷ number_of (opposite a) ∷ number_of (opposite b) ∷ [])
    ∷ (pos g ∷ number_of (opposite a) ∷ number_of b ∷ []) ∷ (pos g ∷ number_of a ∷ number_of (opposite b) ∷ []) ∷ []

-- the clauses of gates, of which the first one is variable g
abbrev pub gates_clauses : ℕ → List Gate → List (List ℤ)
gates_clauses g [] = []
gates_clauses g (gate ∷ gates) = gate_clauses g gate ++ gates_clauses (suc g) gates

-- the clauses that say that a literal is true
abbrev pub truth_clauses : Lit → List (List ℤ)
truth_clauses (Const true) = []
truth_clauses (Const false) = [] ∷ []
truth_clauses (Var v) = (pos v ∷ []) ∷ []
truth_clauses (Not v) = (negative_of v ∷ []) ∷ []

abbrev pub truths_clauses : List Lit → List (List ℤ)
truths_clauses [] = []
truths_clauses (l ∷ ls) = truth_clauses l ++ truths_clauses ls

-- ---- truth of clauses

-- 0 is no variable, and isn't true
abbrev pub is_true_number : (ℕ → Bool) → ℤ → Bool
is_true_number values (pos zero) = false
is_true_number values (pos (suc v)) = values (suc v)
is_true_number values (negsuc v) = not (values (suc v))

abbrev pub is_true_clause : (ℕ → Bool) → List ℤ → Bool
is_true_clause values clause = list_any (is_true_number values) clause

abbrev pub are_true : (ℕ → Bool) → List (List ℤ) → Bool
are_true values clauses = list_all (is_true_clause values) clauses

-- no values make all clauses true
abbrev pub IsUnsatisfiable : List (List ℤ) → Type 0
IsUnsatisfiable clauses = (values : ℕ → Bool) → are_true values clauses ≡ false
