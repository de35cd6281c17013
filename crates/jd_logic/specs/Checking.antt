-- The checker's state and its step by a line.
use Rattle.std.specs.Prelude.{ℕ, suc, ℤ, Bool, true, false, ◌||◌, nat_le, if◌then◌else◌, List, [], ◌∷◌, ◌++◌, length, Option, Some, None, Result, Ok, Err}
use Rattle.std.specs.List.{list_any}
use Rattle.jd_logic.specs.declared.answers.BadLine.{BadLine}
use Rattle.jd_logic.specs.declared.answers.BadLine.TheVariants.{IdOrder}
use Rattle.jd_logic.specs.declared.Line.{Line}
use Rattle.jd_logic.specs.declared.Line.TheVariants.{Derive, Delete}
use Rattle.jd_logic.specs.Literals.{with_negations}
use Rattle.jd_logic.specs.Derivation.{hints_fault, deleted}

-- the clauses that are there by their ids, the greatest id given or derived so far, and whether the empty clause was
pub record State : Type 0 where
  pub clauses : List (ℕ × List ℤ)
  pub greatest : ℕ
  pub refuted : Bool

abbrev pub is_empty : List ℤ → Bool
is_empty [] = true
is_empty (l ∷ ls) = false

-- clauses with ids from one on
abbrev pub numbered_from : ℕ → List (List ℤ) → List (ℕ × List ℤ)
numbered_from id [] = []
numbered_from id (c ∷ cs) = (id, c) ∷ numbered_from (suc id) cs

-- the state with given clauses alone
abbrev pub begun : List (List ℤ) → State
begun clauses = record {
  clauses = numbered_from 1 clauses;
  greatest = length clauses;
  refuted = list_any is_empty clauses;
}

-- the state with a clause more
abbrev pub with_clause : State → ℕ → List ℤ → State
with_clause s id clause = record {
  clauses = s.clauses ++ (id, clause) ∷ [];
  greatest = id;
  refuted = s.refuted || is_empty clause;
}

-- the first cause why a derivation isn't right
abbrev pub derivation_fault : State → ℕ → List ℤ → List ℤ → Option BadLine
derivation_fault s id clause hints =
    if nat_le id s.greatest then Some IdOrder else hints_fault s.clauses (with_negations [] clause) hints

-- the state after a line, or the first cause why the line isn't right
abbrev pub checked : State → Line → Result State BadLine
checked s (Derive id clause hints) = elim (derivation_fault s id clause hints) [
  | Some cause ↦ Err cause
  | None ↦ Ok (with_clause s id clause)
]
checked s (Delete ids) = elim (deleted s.clauses ids) [
  | Err cause ↦ Err cause
  | Ok clauses ↦ Ok (record s { clauses = clauses })
]
