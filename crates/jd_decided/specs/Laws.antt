-- What is proved of leaves and of a prover's answers.
use Rattle.std.specs.Prelude.{◌≡◌, ℕ, ◌≤◌, ℤ, Bool, true, List, length}
use Rattle.jd_logic.specs.declared.Line.{Line}
use Rattle.jd_logic.specs.Checking.{begun}
use Rattle.jd_circuit.specs.Net.{at}
use Rattle.jd_books.specs.Checks.{right_lines, log_end_from}
use Rattle.jd_books.specs.Clauses.{are_true}
use Rattle.jd_books.specs.Leaves.{Leaf, IsLeaf, clauses_of}
use Rattle.jd_proving.specs.Proving.{AreDecided, IsModel, IsRefuted}

abbrev pub LeavesAreDecided : Type 0
LeavesAreDecided = (l : Leaf) → IsLeaf l → AreDecided (clauses_of l) l.inputs

-- values of all variables that begin with some bits and make clauses true
pub record AreValues (clauses : List (List ℤ)) (bits : List Bool) : Type 0 where
  pub values : ℕ → Bool
  pub inputs : (v : ℕ) → 1 ≤ v → v ≤ length bits → values v ≡ at bits v
  pub all_true : are_true values clauses ≡ true

abbrev pub ModelsAreValues : Type 0
ModelsAreValues = (clauses : List (List ℤ)) (inputs : ℕ) (bits : List Bool) → IsModel clauses inputs bits → AreValues clauses bits

abbrev pub RefutationsCheck : Type 0
RefutationsCheck = (clauses : List (List ℤ)) (budget : ℕ) (log : List Line) → IsRefuted clauses budget log → log_end_from (begun clauses) 1 log ≡ right_lines true
