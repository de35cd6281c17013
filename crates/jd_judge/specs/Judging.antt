-- How far the judge has come, and what it answers.
use Rattle.std.specs.Prelude.{◌≡◌, ◌≢◌, ◌⊎◌, ◌≤◌, Bool, true, false, List, [], ◌∷◌, ◌++◌, length, map, flat_map, Option, Some, None, All, AllPairs}
use Rattle.hp_model.specs.State.{Data}
use Rattle.jd_model.specs.Problems.{Problem, allows, free_bits}
use Rattle.jd_model.specs.Seen.{agree}
use Rattle.jd_start.specs.declared.start.Start.{Start}
use Rattle.jd_start.specs.Starts.{start_data}
use Rattle.jd_trees.specs.declared.Kind.{Kind}
use Rattle.jd_trees.specs.declared.Kind.TheVariants.{Whole, Cut}
use Rattle.jd_trees.specs.declared.Node.{Node}
use Rattle.jd_trees.specs.Trees.{IsNode, Tree, preorder}
use Rattle.jd_books.specs.Paths.{answers_of_start, begins}
use Rattle.jd_books.specs.Nodes.{after_nodes, places_along, uncovered_along}
use Rattle.jd_books.specs.Climbs.{Climb, is_left_of, nodes_of, path_of}
use Rattle.jd_books.specs.Leaves.{Claim, IsBookTo, IsFaithfulTo, Leaf, clauses_of}
use Rattle.jd_books.specs.Checks.{IsProvedTo, first_bad, first_open}
use Rattle.jd_books.specs.Outcomes.{AreTooMany, IsCounterexample}
use Rattle.jd_proving.specs.Proving.{IsUnknown}
use Rattle.jd_leaves.specs.Views.{leaf_of}
use Rattle.jd_walk.specs.Walked.{Walked}
use Rattle.jd_judge.specs.declared.outcomes.Judged.{Judged}
use Rattle.jd_judge.specs.declared.outcomes.Judged.TheVariants as j
use Rattle.jd_judge.specs.declared.outcomes.Judging.{Judging}
use Rattle.jd_judge.specs.declared.outcomes.Step.{Step}
use Rattle.jd_judge.specs.declared.outcomes.Step.TheVariants as s

-- the paths of the whole leaves of a book, in order
abbrev pub path_if_whole : Kind → List Bool → List (List Bool)
path_if_whole Whole path = path ∷ []
path_if_whole Cut path = []

abbrev pub whole_paths : List Leaf → List (List Bool)
whole_paths book = flat_map (λ l. path_if_whole l.kind l.path) book

-- ---- answers

-- the certificate's tree is proved by the book, and has no more whole leaves than the problem allows
pub record IsEqual (p : Problem) (claim : Claim) (book : List Leaf) (cert : List Node) : Type 0 where
  pub tree : Tree
  pub nodes_of_tree : preorder tree ≡ cert
  pub proved : IsProvedTo p claim tree book
  pub few : length (whole_paths book) ≤ p.paths

-- a faithful leaf that is whole, or a cut whose path isn't empty
pub record IsUnknownAt (p : Problem) (claim : Claim) (l : Leaf) : Type 0 where
  pub faithful : IsFaithfulTo p claim l
  pub place : (l.kind ≡ Whole) ⊎ (l.path ≢ [])

abbrev pub IsJudgedTo : Problem → Claim → Judged → Type 0
IsJudgedTo p claim (j.Equal book cert) = IsEqual p claim book cert
IsJudgedTo p claim (j.Different start) = IsCounterexample p claim (start_data start)
IsJudgedTo p claim (j.Unknown leaf log) = IsUnknownAt p claim (leaf_of leaf) × IsUnknown (clauses_of (leaf_of leaf)) (free_bits p) p.budget log
IsJudgedTo p claim (j.TooManyPaths starts) = AreTooMany p starts

-- where both routines are to agree
abbrev pub IsJudged : Problem → Judged → Type 0
IsJudged p = IsJudgedTo p (agree p)

-- ---- the way there

-- what of a tree stands so far: it covers, each leaf and cut is faithful, and its lines refute it
pub record IsTreeSoFar (p : Problem) (claim : Claim) (nodes : List Node) (book : List Leaf) : Type 0 where
  pub covered : uncovered_along p (Some []) nodes ≡ None
  pub leaves : IsBookTo p claim (places_along (Some []) nodes) book
  pub right : first_bad book (places_along (Some []) nodes) ≡ None
  pub refuted : first_open book (places_along (Some []) nodes) ≡ None

-- an allowed start of each whole leaf so far: its answers are the leaf's path. They stand in the order of the paths
pub record AreStartsSoFar (p : Problem) (book : List Leaf) (starts : List Data) : Type 0 where
  pub allowed : All (λ s. allows p s ≡ true) starts
  pub answers : map (answers_of_start p) starts ≡ whole_paths book
  pub ordered : AllPairs (λ q r. is_left_of q r ≡ true) (whole_paths book)

-- the judge stands at the walk's path, where the next tree stands
pub record IsPlaced (p : Problem) (claim : Claim) (w : Walked) (nodes : List Node) (book : List Leaf) (starts : List Data) : Type 0 where
  pub problem : w.problem ≡ p
  pub unspent : w.spent ≡ false
  pub climb : Climb
  pub climb_path : path_of climb ≡ w.path
  pub climb_nodes : nodes_of climb ≡ nodes
  pub next : after_nodes (Some []) nodes ≡ Some w.path
  pub tree : IsTreeSoFar p claim nodes book
  pub ranges : All IsNode nodes
  pub starts_are : AreStartsSoFar p book starts
  pub few : length starts ≤ p.paths
  pub left : All (λ q. is_left_of q w.path ≡ true) (whole_paths book)

-- a start that comes to a path. At the empty path none is looked for
pub record Comes (p : Problem) (path : List Bool) (s : Data) : Type 0 where
  pub allowed : allows p s ≡ true
  pub comes : begins path (answers_of_start p s) ≡ true

abbrev pub IsWitness : Problem → List Bool → Option Start → Type 0
IsWitness p path None = path ≡ []
IsWitness p path (Some start) = Comes p path (start_data start)

-- a start whose answers are the path
abbrev pub IsOwn : Problem → List Bool → Option Start → Type 0
IsOwn p path None = path ≡ []
IsOwn p path (Some start) = (allows p (start_data start) ≡ true) × (answers_of_start p (start_data start) ≡ path)

-- the starts after a leaf, whose own start is kept where there is one
abbrev pub with_start : List Data → Option Start → List Data
with_start starts None = starts
with_start starts (Some start) = starts ++ start_data start ∷ []

abbrev pub IsJudgingAt : {X : Type 0} {F : X → Type 0} {M : _} → Problem → Claim → Judging X F M → Type 0
IsJudgingAt p claim judging = IsPlaced p claim judging.walk judging.nodes.items judging.book judging.starts

pub record IsJudging {X : Type 0} {F : X → Type 0} {M : _} (p : Problem) (claim : Claim) (judging : Judging X F M) : Type 0 where
  pub placed : IsJudgingAt p claim judging
  pub witness : IsWitness p judging.walk.path judging.witness

abbrev pub IsStep : {X : Type 0} {F : X → Type 0} {M : _} → Problem → Claim → Step X F M → Type 0
IsStep p claim (s.Go judging) = IsJudging p claim judging
IsStep p claim (s.Over judged) = IsJudgedTo p claim judged
