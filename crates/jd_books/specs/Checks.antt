-- What a check of a certificate answers.
use Rattle.std.specs.Prelude.{◌≡◌, ℕ, suc, Bool, if◌then◌else◌, List, [], ◌∷◌, Option, Some, None, Ok, Err}
use Rattle.jd_logic.specs.declared.Line.{Line}
use Rattle.jd_logic.specs.declared.answers.BadLine.{BadLine}
use Rattle.jd_logic.specs.Checking.{State, begun, checked}
use Rattle.jd_model.specs.Problems.{Problem}
use Rattle.jd_trees.specs.Trees.{Tree}
use Rattle.jd_books.specs.Trees.{Place, places, uncovered}
use Rattle.jd_model.specs.Seen.{agree}
use Rattle.jd_books.specs.Leaves.{Claim, Leaf, clauses_of, IsBookTo}

-- what a log does: a bad line with its number, or whether the empty clause is there at its end
pub data LogEnd : Type 0 where
  bad_at : ℕ → BadLine → LogEnd
  right_lines : Bool → LogEnd

-- the lines in turn, counted from a number on
abbrev pub log_end_from : State → ℕ → List Line → LogEnd
log_end_from s n [] = right_lines s.refuted
log_end_from s n (line ∷ log) = elim (checked s line) [
  | Err cause ↦ bad_at n cause
  | Ok next ↦ log_end_from next (suc n) log
]

-- the lines of a node from the clauses of its leaf
abbrev pub log_end : Leaf → List Line → LogEnd
log_end leaf log = log_end_from (begun (clauses_of leaf)) 1 log

pub record BadAt : Type 0 where
  pub path : List Bool
  pub line : ℕ
  pub cause : BadLine

abbrev pub or_bad : List Bool → LogEnd → Option BadAt → Option BadAt
or_bad path (bad_at n cause) later = Some (record { path = path; line = n; cause = cause })
or_bad path (right_lines refuted) later = later

-- the first line that isn't right, where each leaf has the lines of its place
abbrev pub first_bad : List Leaf → List Place → Option BadAt
first_bad [] at = None
first_bad (leaf ∷ book) [] = None
first_bad (leaf ∷ book) (place ∷ at) = or_bad place.path (log_end leaf place.log) (first_bad book at)

abbrev pub or_open : List Bool → LogEnd → Option (List Bool) → Option (List Bool)
or_open path (bad_at n cause) later = later
or_open path (right_lines refuted) later = if refuted then later else Some path

-- the first place whose lines are right and don't refute its leaf
abbrev pub first_open : List Leaf → List Place → Option (List Bool)
first_open [] at = None
first_open (leaf ∷ book) [] = None
first_open (leaf ∷ book) (place ∷ at) = or_open place.path (log_end leaf place.log) (first_open book at)

-- the first path at which the tree doesn't cover
abbrev pub IsUncovered : Problem → Tree → List Bool → Type 0
IsUncovered p tree path = uncovered p tree ≡ Some path

-- a tree that covers, and its faithful book
pub record IsCoveredTo (p : Problem) (claim : Claim) (tree : Tree) (book : List Leaf) : Type 0 where
  pub covers : uncovered p tree ≡ None
  pub leaves : IsBookTo p claim (places tree) book

-- all lines are right, and each leaf and cut is refuted
pub record IsProvedTo (p : Problem) (claim : Claim) (tree : Tree) (book : List Leaf) : Type 0 where
  pub covered : IsCoveredTo p claim tree book
  pub right : first_bad book (places tree) ≡ None
  pub refuted : first_open book (places tree) ≡ None

-- ---- where both routines are to agree

abbrev pub IsCovered : Problem → Tree → List Leaf → Type 0
IsCovered p = IsCoveredTo p (agree p)

abbrev pub IsProved : Problem → Tree → List Leaf → Type 0
IsProved p = IsProvedTo p (agree p)

pub record IsBadAt (p : Problem) (tree : Tree) (book : List Leaf) (bad : BadAt) : Type 0 where
  pub covered : IsCovered p tree book
  pub first : first_bad book (places tree) ≡ Some bad

pub record IsOpenAt (p : Problem) (tree : Tree) (book : List Leaf) (path : List Bool) : Type 0 where
  pub covered : IsCovered p tree book
  pub right : first_bad book (places tree) ≡ None
  pub first : first_open book (places tree) ≡ Some path
