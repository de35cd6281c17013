-- A tree that is being built in preorder, and the order of paths.
use Rattle.std.specs.Prelude.{◌≡◌, Bool, false, if◌then◌else◌, List, [], ◌∷◌, ◌++◌, map, is_some, Option, Some, None}
use Rattle.std.specs.Bool.{beq}
use Rattle.jd_trees.specs.Trees.{Tree, preorder}
use Rattle.jd_trees.specs.declared.Node.{Node}
use Rattle.jd_trees.specs.declared.Node.TheVariants.{Fork}

-- the way from the root to the place of the next tree: for each answer no, or yes with the tree for no
abbrev pub Climb : Type 0
Climb = List (Option Tree)

abbrev pub path_of : Climb → List Bool
path_of climb = map is_some climb

-- the nodes that stand before that place
abbrev pub nodes_of : Climb → List Node
nodes_of [] = []
nodes_of (None ∷ climb) = Fork ∷ nodes_of climb
nodes_of (Some at_no ∷ climb) = Fork ∷ (preorder at_no ++ nodes_of climb)

-- the tree and the nodes after one more whole tree: all is whole, or the next place stands at a path
abbrev pub IsClosed : List Node → Option (List Bool) → Type 0
IsClosed nodes None = (tree : Tree) × (preorder tree ≡ nodes)
IsClosed nodes (Some path) = (climb : Climb) × (path_of climb ≡ path) × (nodes_of climb ≡ nodes)

-- whether a path parts from another with no where the other has yes
abbrev pub is_left_of : List Bool → List Bool → Bool
is_left_of [] other = false
is_left_of (b ∷ path) [] = false
is_left_of (b ∷ path) (c ∷ other) = if beq b c then is_left_of path other else c
