-- The places of the leaves and cuts of a certificate's tree, and whether the tree covers.
use Rattle.std.specs.Prelude.{List, [], ◌∷◌, ◌++◌, Bool, true, false, if◌then◌else◌, Option, Some, None}
use Rattle.jd_logic.specs.declared.Line.{Line}
use Rattle.jd_trees.specs.declared.Kind.{Kind}
use Rattle.jd_trees.specs.declared.Kind.TheVariants.{Whole, Cut}
use Rattle.jd_trees.specs.Trees.{Tree, fork_of, node_of}
use Rattle.jd_model.specs.Problems.{Problem}
use Rattle.jd_books.specs.Paths.{Reached, asking, reached, after_path, AsksAfter, OverAfter}

-- a leaf or a cut: its path, its kind and its lines
pub record Place : Type 0 where
  pub path : List Bool
  pub kind : Kind
  pub log : List Line

abbrev pub with_answer : List Bool → Bool → List Bool
with_answer path answer = path ++ answer ∷ []

-- the leaves and cuts of a tree in preorder, where the tree stands at a path
abbrev pub places_from : List Bool → Tree → List Place
places_from path (fork_of at_no at_yes) = places_from (with_answer path false) at_no ++ places_from (with_answer path true) at_yes
places_from path (node_of kind log) = record { path = path; kind = kind; log = log } ∷ []

abbrev pub places : Tree → List Place
places tree = places_from [] tree

-- a fork stands where control asks, a leaf where both runs are over, and a cut anywhere
abbrev pub CoversFrom : Problem → List Bool → Tree → Type 0
CoversFrom p path (fork_of at_no at_yes) =
    AsksAfter p path × CoversFrom p (with_answer path false) at_no × CoversFrom p (with_answer path true) at_yes
CoversFrom p path (node_of Whole log) = OverAfter p path
CoversFrom p path (node_of Cut log) = Unit {0}

abbrev pub Covers : Problem → Tree → Type 0
Covers p tree = CoversFrom p [] tree

-- ---- the first path at which a tree doesn't cover

abbrev pub is_asking : {A : Type 0} → Reached A → Bool
is_asking asking = true
is_asking (reached a rest) = false

abbrev pub is_over : {A : Type 0} → Reached A → Bool
is_over (reached a []) = true
is_over _ = false

abbrev pub or_first : {A : Type 0} → Option A → Option A → Option A
or_first None other = other
or_first (Some a) other = Some a

abbrev pub wrong_unless : Bool → List Bool → Option (List Bool)
wrong_unless right path = if right then None else Some path

-- whether a fork, a leaf or a cut may stand at a path
abbrev pub fork_fault : Problem → List Bool → Option (List Bool)
fork_fault p path = wrong_unless (is_asking (after_path p path)) path

abbrev pub leaf_fault : Problem → List Bool → Kind → Option (List Bool)
leaf_fault p path Whole = wrong_unless (is_over (after_path p path)) path
leaf_fault p path Cut = None

-- in preorder, where the tree stands at a path
abbrev pub uncovered_from : Problem → List Bool → Tree → Option (List Bool)
uncovered_from p path (fork_of at_no at_yes) =
    or_first (fork_fault p path)
    (or_first (uncovered_from p (with_answer path false) at_no) (uncovered_from p (with_answer path true) at_yes))
uncovered_from p path (node_of kind log) = leaf_fault p path kind

abbrev pub uncovered : Problem → Tree → Option (List Bool)
uncovered p tree = uncovered_from p [] tree
