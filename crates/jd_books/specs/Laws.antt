-- What is proved of the definitions.
use Rattle.std.specs.Prelude.{◌≡◌, ℕ, ℤ, List, [], true, Some, None}
use Rattle.jd_logic.specs.declared.Line.{Line}
use Rattle.jd_logic.specs.Checking.{begun}
use Rattle.jd_model.specs.Problems.{Problem}
use Rattle.jd_books.specs.Clauses.{IsUnsatisfiable}
use Rattle.jd_trees.specs.Trees.{Tree, preorder}
use Rattle.jd_books.specs.Trees.{Covers, uncovered, places}
use Rattle.jd_books.specs.Leaves.{Claim, Leaf}
use Rattle.jd_books.specs.Nodes.{after_nodes, places_along, uncovered_along}
use Rattle.jd_books.specs.Outcomes.{AllMeet}
use Rattle.jd_books.specs.Checks.{right_lines, log_end_from, IsProvedTo}

-- where a tree covers, and the lines of each leaf and cut refute its leaf in a faithful book, the claim holds of all allowed
-- starts
abbrev pub Soundness : Type 0
Soundness = (p : Problem) (claim : Claim) (tree : Tree) (book : List Leaf) → IsProvedTo p claim tree book → AllMeet p claim

-- clauses from which right lines derive the empty clause can't all be true
abbrev pub Refutations : Type 0
Refutations = (clauses : List (List ℤ)) (n : ℕ) (log : List Line) → log_end_from (begun clauses) n log ≡ right_lines true → IsUnsatisfiable clauses

-- a tree covers exactly where there is no first path at which it doesn't
pub record Covering : Type 0 where
  pub covers : (p : Problem) (tree : Tree) → uncovered p tree ≡ None → Covers p tree
  pub none_left : (p : Problem) (tree : Tree) → Covers p tree → uncovered p tree ≡ None

-- a tree by its nodes in preorder
pub record InPreorder : Type 0 where
  pub whole : (tree : Tree) → after_nodes (Some []) (preorder tree) ≡ None
  pub places : (tree : Tree) → places_along (Some []) (preorder tree) ≡ places tree
  pub uncovered : (p : Problem) (tree : Tree) → uncovered_along p (Some []) (preorder tree) ≡ uncovered p tree
