-- The events of lines one after another, and those of a whole tree.
use Rattle.std.specs.Prelude.{◌≡◌, ℕ, true, List, [], ◌∷◌, ◌++◌, map, flat_map, Option, Some, None}
use Rattle.jd_logic.specs.declared.Line.{Line}
use Rattle.jd_trees.specs.declared.Kind.{Kind}
use Rattle.jd_trees.specs.declared.Kind.TheVariants as kinds
use Rattle.jd_trees.specs.declared.Node.{Node}
use Rattle.jd_trees.specs.declared.Node.TheVariants as nodes_as
use Rattle.jd_trees.specs.declared.Spot.{Spot}
use Rattle.jd_trees.specs.declared.CertEvent.{CertEvent}
use Rattle.jd_trees.specs.declared.CertEvent.TheVariants.{Nothing, Fork, Leaf, Cut, Proof, End}
use Rattle.jd_trees.specs.Trees.{Tree, preorder}
use Rattle.jd_trees.specs.CertLines.{is_whole, said}

-- a leaf or cut that began, with its lines so far
abbrev pub begun_events : Kind → List Line → List CertEvent
begun_events kinds.Whole log = Leaf ∷ map (λ line. Proof line) log
begun_events kinds.Cut log = Cut ∷ map (λ line. Proof line) log

abbrev pub node_events : Node → List CertEvent
node_events nodes_as.Fork = Fork ∷ []
node_events (nodes_as.Leaf log) = begun_events kinds.Whole log ++ End ∷ []
node_events (nodes_as.Cut log) = begun_events kinds.Cut log ++ End ∷ []

abbrev pub events_of : List Node → List CertEvent
events_of nodes = flat_map node_events nodes

-- an event among the events: Nothing isn't counted
abbrev pub counted : CertEvent → List CertEvent
counted Nothing = []
counted Fork = Fork ∷ []
counted Leaf = Leaf ∷ []
counted Cut = Cut ∷ []
counted (Proof line) = Proof line ∷ []
counted End = End ∷ []

-- events, and the spot after their lines
abbrev pub EventsTo : Type 0
EventsTo = Option (List CertEvent × Spot)

abbrev pub after_event : CertEvent → EventsTo → EventsTo
after_event event None = None
after_event event (Some e) = Some (counted event ++ e.0, e.1)

-- the events that lines tell from a spot on, or None where one of them is bad
abbrev pub events_after : Spot → List (List (List ℕ)) → EventsTo
events_after spot [] = Some ([], spot)
events_after spot (words ∷ lines) = elim (said spot words) [
  | None ↦ None
  | Some e ↦ after_event e.0 (events_after e.1 lines)
]

-- events begin those of a tree, and are all of them where the spot says that the tree is whole
pub record IsTreeSoFar (events : List CertEvent) (spot : Spot) : Type 0 where
  pub tree : Tree
  pub to_come : List CertEvent
  pub is : events ++ to_come ≡ events_of (preorder tree)
  pub whole : is_whole spot ≡ true → to_come ≡ []
