-- The check of a derivation and of a deletion against the clauses that are there, each a pair of id and clause.
use Rattle.std.specs.Prelude.{ℕ, ℤ, pos, negsuc, not, ◌==◌, if◌then◌else◌, List, [], ◌∷◌, Option, Some, None, Result, Ok, Err}
use Rattle.std.specs.List.{filter}
use Rattle.jd_logic.specs.declared.answers.BadLine.{BadLine}
use Rattle.jd_logic.specs.declared.answers.BadLine.TheVariants.{NoClause, NotUnit, NoConflict, RatLine}
use Rattle.jd_logic.specs.declared.Left.TheVariants.{Falsified, Unit, Open}
use Rattle.jd_logic.specs.Literals.{with_literal, left}

-- the clause of an id
abbrev pub clause_of : ℕ → List (ℕ × List ℤ) → Option (List ℤ)
clause_of id [] = None
clause_of id (c ∷ cs) = if c.0 == id then Some c.1 else clause_of id cs

-- the first cause why hints lead to no conflict, or None where they lead to one
abbrev pub hints_fault : List (ℕ × List ℤ) → List ℤ → List ℤ → Option BadLine
hints_fault clauses trues [] = Some NoConflict
hints_fault clauses trues (negsuc n ∷ hints) = Some RatLine
hints_fault clauses trues (pos id ∷ hints) = elim (clause_of id clauses) [
  | None ↦ Some (NoClause (pos id))
  | Some clause ↦ (elim (left trues clause) [
    | Falsified ↦ None
    | Unit l ↦ hints_fault clauses (with_literal trues l) hints
    | Open ↦ Some (NotUnit (pos id))
  ])
]

-- the clauses without that of an id
abbrev pub without : ℕ → List (ℕ × List ℤ) → List (ℕ × List ℤ)
without id clauses = filter (λ c. not (c.0 == id)) clauses

-- the clauses without those of some ids, each of which must be there in its turn
abbrev pub deleted : List (ℕ × List ℤ) → List ℕ → Result (List (ℕ × List ℤ)) BadLine
deleted clauses [] = Ok clauses
deleted clauses (id ∷ ids) = elim (clause_of id clauses) [
  | None ↦ Err (NoClause (pos id))
  | Some clause ↦ deleted (without id clauses) ids
]
