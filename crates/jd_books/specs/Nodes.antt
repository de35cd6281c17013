-- A certificate as the list of its nodes, taken one after another. The place of the next node is a path, None where the
-- tree is whole.
use Rattle.std.specs.Prelude.{List, [], ◌∷◌, ◌++◌, Bool, false, Option, Some, None}
use Rattle.jd_model.specs.Problems.{Problem}
use Rattle.jd_books.specs.Paths.{next_path}
use Rattle.jd_trees.specs.declared.Node.{Node}
use Rattle.jd_trees.specs.declared.Node.TheVariants.{Fork, Leaf, Cut}
use Rattle.jd_trees.specs.declared.Kind.TheVariants as kinds
use Rattle.jd_books.specs.Trees.{Place, with_answer, or_first, fork_fault, leaf_fault}

-- where the node after this one stands
abbrev pub after_node : List Bool → Node → Option (List Bool)
after_node path Fork = Some (with_answer path false)
after_node path (Leaf log) = next_path path
after_node path (Cut log) = next_path path

abbrev pub node_fault : Problem → List Bool → Node → Option (List Bool)
node_fault p path Fork = fork_fault p path
node_fault p path (Leaf log) = leaf_fault p path kinds.Whole
node_fault p path (Cut log) = leaf_fault p path kinds.Cut

abbrev pub place_at : List Bool → Node → List Place
place_at path Fork = []
place_at path (Leaf log) = record { path = path; kind = kinds.Whole; log = log } ∷ []
place_at path (Cut log) = record { path = path; kind = kinds.Cut; log = log } ∷ []

-- where the node after some nodes stands
abbrev pub after_nodes : Option (List Bool) → List Node → Option (List Bool)
after_nodes at [] = at
after_nodes None (n ∷ nodes) = None
after_nodes (Some path) (n ∷ nodes) = after_nodes (after_node path n) nodes

-- the leaves and cuts among the nodes
abbrev pub places_along : Option (List Bool) → List Node → List Place
places_along at [] = []
places_along None (n ∷ nodes) = []
places_along (Some path) (n ∷ nodes) = place_at path n ++ places_along (after_node path n) nodes

-- the first path at which they don't cover
abbrev pub uncovered_along : Problem → Option (List Bool) → List Node → Option (List Bool)
uncovered_along p at [] = None
uncovered_along p None (n ∷ nodes) = None
uncovered_along p (Some path) (n ∷ nodes) = or_first (node_fault p path n) (uncovered_along p (after_node path n) nodes)
