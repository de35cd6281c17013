-- Trees of certificates and the lists of their nodes.
use Rattle.std.specs.Prelude.{◌≡◌, List, [], ◌∷◌, ◌++◌}
use Rattle.std.specs.List.{All}
use Rattle.jd_logic.specs.declared.Line.{Line}
use Rattle.jd_logic.specs.Ranges.{AreLines}
use Rattle.jd_trees.specs.declared.Kind.{Kind}
use Rattle.jd_trees.specs.declared.Kind.TheVariants as kinds
use Rattle.jd_trees.specs.declared.Node.{Node}
use Rattle.jd_trees.specs.declared.Node.TheVariants.{Fork, Leaf, Cut}

-- a fork with the trees for no and for yes, or a leaf or cut with its lines
pub data Tree : Type 0 where
  fork_of : Tree → Tree → Tree
  node_of : Kind → List Line → Tree

-- a leaf or a cut
abbrev pub node : Kind → List Line → Node
node kinds.Whole log = Leaf log
node kinds.Cut log = Cut log

abbrev pub preorder : Tree → List Node
preorder (fork_of at_no at_yes) = Fork ∷ (preorder at_no ++ preorder at_yes)
preorder (node_of kind log) = node kind log ∷ []

abbrev pub IsNode : Node → Type 0
IsNode Fork = Unit {0}
IsNode (Leaf log) = AreLines log
IsNode (Cut log) = AreLines log

-- nodes are those of a tree, and all numbers of their lines are in their ranges
pub record IsCert (nodes : List Node) : Type 0 where
  pub tree : Tree
  pub nodes_of_tree : preorder tree ≡ nodes
  pub ranges : All IsNode nodes
