-- What a conflict teaches.
use Rattle.std.specs.Prelude.{ℕ, ℤ, List}
use Rattle.jd_logic.specs.Literals.{AreLiterals, AreHints}
use Rattle.jd_propagate.specs.Quiet.{IsWithin}
use Rattle.jd_propagate.specs.Levels.{negated}
use Rattle.jd_prover.specs.declared.solver.Solver.{Solver}
use Rattle.jd_prover.specs.Solving.{store_of, IsExplained, IsRight}
use Rattle.jd_learn.specs.declared.analysis.Analysis.{Analysis}
use Rattle.jd_learn.specs.declared.analysis.Taught.{Taught}

-- hints that lead to the conflict from literals kept and those needed among the first of the trail
pub record IsAnalysed (clauses : List (List ℤ)) (s : Solver) (a : Analysis) (at : ℕ) : Type 0 where
  pub explained : IsExplained (store_of clauses s.lines.items) s.trail a.kept.items a.marks.items a.hints.items at
  pub are_true : IsWithin a.kept.items s.trail
  pub literals : AreLiterals a.kept.items

-- hints that show the clause of the negated literals
pub record IsTaught (clauses : List (List ℤ)) (s : Solver) (t : Taught) : Type 0 where
  pub right : IsRight clauses s.lines.items (negated t.kept.items) t.hints.items
  pub hints_in : AreHints t.hints.items
  pub literals : AreLiterals t.kept.items
