-- How far a check has come: the nodes that were taken, and the leaf or cut that is open.
use Rattle.std.specs.Prelude.{◌≡◌, Bool, true, false, List, [], ◌∷◌, ◌++◌, Option, Some, None}
use Rattle.jd_logic.specs.declared.Line.{Line}
use Rattle.jd_model.specs.Problems.{Problem}
use Rattle.jd_trees.specs.declared.Kind.{Kind}
use Rattle.jd_trees.specs.declared.Node.{Node}
use Rattle.jd_trees.specs.Trees.{node}
use Rattle.jd_books.specs.Trees.{leaf_fault}
use Rattle.jd_books.specs.Nodes.{after_nodes, places_along, uncovered_along}
use Rattle.jd_books.specs.Leaves.{IsBookOf}
use Rattle.jd_books.specs.Checks.{LogEnd, bad_at, log_end_from, log_end, BadAt, first_bad, first_open}
use Rattle.jd_leaves.specs.Views.{leaf_of}
use Rattle.jd_leaves.specs.declared.lists.Path.{Path}
use Rattle.jd_walk.specs.Leaves.{IsLeafOf}
use Rattle.jd_check.specs.declared.lines.LogCheck.{LogCheck}
use Rattle.jd_check.specs.declared.progress.Bad.{Bad}
use Rattle.jd_check.specs.declared.progress.Open.{Open}
use Rattle.jd_check.specs.declared.progress.Opened.{Opened}
use Rattle.jd_check.specs.declared.progress.Opened.TheVariants as o
use Rattle.jd_check.specs.declared.progress.Progress.{Progress}

-- the end of a log, from where its check stands
abbrev pub log_after : LogCheck → List Line → LogEnd
log_after check log = elim check.bad [
  | Some f ↦ bad_at f.0 f.1
  | None ↦ log_end_from check.checker.state check.count log
]

-- the first bad line and the first open path, as the code keeps them
abbrev pub bad_of : Option Bad → Option BadAt
bad_of None = None
bad_of (Some b) = Some (record { path = b.path; line = b.line; cause = b.cause })

abbrev pub path_of : Option Path → Option (List Bool)
path_of None = None
path_of (Some path) = Some path

-- where the next node stands
abbrev pub next_of : {X : Type 0} {F : X → Type 0} {M : _} → Progress X F M → Option (List Bool)
next_of run = elim run.whole [ true ↦ None | false ↦ Some run.walk.path ]

-- some nodes were taken, and nothing was found that doesn't cover
pub record IsTaken {X : Type 0} {F : X → Type 0} {M : _} (p : Problem) (nodes : List Node) (run : Progress X F M) : Type 0 where
  pub problem : run.walk.problem ≡ p
  pub unspent : run.walk.spent ≡ false
  pub covered : uncovered_along p (Some []) nodes ≡ None
  pub next : after_nodes (Some []) nodes ≡ next_of run
  pub leaves : IsBookOf p (places_along (Some []) nodes) run.book
  pub bad : first_bad run.book (places_along (Some []) nodes) ≡ bad_of run.bad
  pub open_first : first_open run.book (places_along (Some []) nodes) ≡ path_of run.unrefuted

-- the next node is taken, or its path is the first at which the tree doesn't cover
pub record IsNext {X : Type 0} {F : X → Type 0} {M : _} (p : Problem) (nodes : List Node) (n : Node) (run : Progress X F M) (shape : Option Path) : Type 0 where
  pub taken : shape ≡ None → IsTaken p (nodes ++ n ∷ []) run
  pub fault : (path : Path) → shape ≡ Some path → uncovered_along p (Some []) (nodes ++ n ∷ []) ≡ Some path

-- a leaf or a cut is open at the walk's path, and some of its lines were checked
pub record IsOpen {X : Type 0} {F : X → Type 0} {M : _} (p : Problem) (nodes : List Node) (kind : Kind) (log : List Line) (run : Progress X F M) (part : Open) : Type 0 where
  pub taken : IsTaken p nodes run
  pub going : run.whole ≡ false
  pub right : leaf_fault p run.walk.path kind ≡ None
  pub leaf : IsLeafOf run.walk kind (leaf_of part.leaf)
  pub lines : (rest : List Line) → log_end (leaf_of part.leaf) (log ++ rest) ≡ log_after part.check rest

-- a leaf or a cut was opened, or its path is the first at which the tree doesn't cover, whatever its lines are
abbrev pub IsOpened : {X : Type 0} {F : X → Type 0} {M : _} → Problem → List Node → Kind → Progress X F M → Opened → Type 0
IsOpened p nodes kind run (o.Open part) = IsOpen p nodes kind [] run part
IsOpened p nodes kind run (o.Shape path) = (log : List Line) → uncovered_along p (Some []) (nodes ++ node kind log ∷ []) ≡ Some path

-- no line of it was checked yet
abbrev pub IsBegun : Opened → Type 0
IsBegun (o.Open part) = part.check.count ≡ 1
IsBegun (o.Shape path) = Unit {0}
