-- What holds of the trail before each decision of a search.
use Rattle.std.specs.Prelude.{◌≡◌, ◌⊎◌, ℕ, ℤ, neg_ℤ, true, false, List, [], ◌∷◌, map}
use Rattle.std.specs.List.{All}
use Rattle.jd_logic.specs.declared.Line.{Line}
use Rattle.jd_logic.specs.declared.Line.TheVariants.{Derive, Delete}
use Rattle.jd_logic.specs.Checking.{State, with_clause}
use Rattle.jd_proving.specs.Propagation.{has_value}
use Rattle.jd_propagate.specs.Quiet.{IsIn, IsWithin, IsTrueIn, IsQuiet, AreQuiet}

-- the clause of the negated decisions
abbrev pub negated : List ℤ → List ℤ
negated decisions = map neg_ℤ decisions

-- some literal of a line is true
abbrev pub IsTrueLine : List ℤ → List ℤ → Type 0
IsTrueLine trues line = (l : ℤ) × IsTrueIn trues line l

-- a line is true before a decision, or was added since: then it has the negated decision, and gave nothing before it
abbrev pub IsLineBefore : List ℤ → ℤ → List ℤ → Type 0
IsLineBefore trues decision line = IsTrueLine trues line ⊎ (IsIn line (neg_ℤ decision) × IsQuiet trues line)

-- the trail before a decision
pub record IsLevel (clauses lines : List (List ℤ)) (earlier trues : List ℤ) (decision : ℤ) : Type 0 where
  pub quiet : AreQuiet trues clauses
  pub earlier_true : IsWithin earlier trues
  pub no_value : has_value trues decision ≡ false
  pub lines_before : All (IsLineBefore trues decision) lines

-- the clauses of derivations, and the state after them
abbrev pub clauses_of : List Line → List (List ℤ)
clauses_of [] = []
clauses_of (Derive id clause hints ∷ lines) = clause ∷ clauses_of lines
clauses_of (Delete ids ∷ lines) = clauses_of lines

abbrev pub derived : State → List Line → State
derived s [] = s
derived s (Derive id clause hints ∷ lines) = derived (with_clause s id clause) lines
derived s (Delete ids ∷ lines) = derived s lines
