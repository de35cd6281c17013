-- The leaf of a walk's path.
use Rattle.std.specs.Prelude.{◌≡◌, ◌<◌, ◌^◌, true, not, length, Option, Some}
use Rattle.jd_circuit.specs.declared.literals.Lit.{Lit}
use Rattle.jd_circuit.specs.declared.literals.Lit.TheVariants.{Const}
use Rattle.jd_circuit.specs.Net.{eval}
use Rattle.jd_model.specs.Problems.{bits}
use Rattle.jd_trees.specs.declared.Kind.{Kind}
use Rattle.jd_trees.specs.declared.Kind.TheVariants.{Whole}
use Rattle.jd_books.specs.Leaves.{Claim, Leaf, IsFaithful, IsFaithfulTo}
use Rattle.jd_cones.specs.Cones.{IsConeOf}
use Rattle.jd_walk.specs.declared.places.Next.{Next}
use Rattle.jd_walk.specs.declared.places.Next.TheVariants.{Done}
use Rattle.jd_walk.specs.Walked.{Walked, WhereGuarded}

-- the literal of the difference where the leaf is whole
abbrev pub diff_at : Option Next → Kind → Lit
diff_at (Some (Done l)) Whole = l
diff_at _ _ = Const true

-- the leaf of a walk's path, with all gates of its circuit
abbrev pub leaf_at : Walked → Kind → Leaf
leaf_at w kind = record { path = w.path; inputs = w.net.inputs; gates = w.net.gates; guards = w.guards; diff = diff_at w.next kind; kind = kind }

pub record IsWholeLeafOf (w : Walked) (kind : Kind) (l : Leaf) : Type 0 where
  pub is : l ≡ leaf_at w kind
  pub few : length l.gates < 2 ^ 30
  pub faithful : IsFaithful w.problem l

-- a faithful leaf of a walk's path, with the gates alone that its guards and its difference stand on, fewer than 2^30
pub record IsLeafOf (w : Walked) (kind : Kind) (l : Leaf) : Type 0 where
  pub path : l.path ≡ w.path
  pub kind_is : l.kind ≡ kind
  pub cone : IsConeOf (leaf_at w kind) l
  pub few : length l.gates < 2 ^ 30
  pub faithful : IsFaithful w.problem l

-- the whole leaf of a walk's path with some difference, with all gates of its circuit. It is faithful to each claim that
-- is false where the difference is true
abbrev pub leaf_with_at : Walked → Lit → Leaf
leaf_with_at w diff = record { path = w.path; inputs = w.net.inputs; gates = w.net.gates; guards = w.guards; diff = diff; kind = Whole }

pub record IsLeafWith (w : Walked) (diff : Lit) (l : Leaf) : Type 0 where
  pub is : l ≡ leaf_with_at w diff
  pub few : length l.gates < 2 ^ 30
  pub faithful : (claim : Claim) → WhereGuarded w (λ s. eval w.net (bits w.problem s) diff ≡ not (claim s)) → IsFaithfulTo w.problem claim l

-- a leaf of a walk's path that is faithful to a claim
pub record IsLeafFor (w : Walked) (claim : Claim) (kind : Kind) (l : Leaf) : Type 0 where
  pub path : l.path ≡ w.path
  pub kind_is : l.kind ≡ kind
  pub faithful : IsFaithfulTo w.problem claim l
