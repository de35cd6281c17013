-- Leaves as the definitions name them.
use Rattle.jd_books.specs.Leaves.{Leaf as LeafOf}
use Rattle.jd_leaves.specs.declared.leaf.Leaf.{Leaf}

abbrev pub leaf_of : Leaf → LeafOf
leaf_of l = record { path = l.path; inputs = l.inputs; gates = l.gates; guards = l.guards; diff = l.diff; kind = l.kind }
