-- Events that begin those of a certificate.
use Rattle.std.specs.Prelude.{◌≡◌, ℕ, suc, ◌+◌, ◌<◌, ◌^◌, List, [], ◌∷◌, ◌++◌}
use Rattle.jd_trees.specs.declared.CertEvent.{CertEvent}
use Rattle.jd_trees.specs.declared.CertEvent.TheVariants.{Nothing, Fork, Leaf, Cut, Proof, End}
use Rattle.jd_trees.specs.Events.{events_of}
use Rattle.jd_trees.specs.Trees.{Tree, preorder}

-- events begin those of a tree
abbrev pub Begins : List CertEvent → Tree → Type 0
Begins events tree = (to_come : List CertEvent) × (events ++ to_come ≡ events_of (preorder tree))

-- events begin those of some tree
abbrev pub BeginsTree : List CertEvent → Type 0
BeginsTree events = (tree : Tree) × Begins events tree

-- the lines after the last event that is none, counted from a number on
abbrev pub lines_from : ℕ → List CertEvent → ℕ
lines_from n [] = n
lines_from n (Nothing ∷ events) = lines_from 0 events
lines_from n (Fork ∷ events) = lines_from 0 events
lines_from n (Leaf ∷ events) = lines_from 0 events
lines_from n (Cut ∷ events) = lines_from 0 events
lines_from n (Proof line ∷ events) = lines_from (suc n) events
lines_from n (End ∷ events) = lines_from 0 events

-- the lines so far of the leaf or cut that is open
abbrev pub open_lines : List CertEvent → ℕ
open_lines events = lines_from 0 events

-- so few that one more can be counted
abbrev pub IsShort : List CertEvent → Type 0
IsShort events = open_lines events + 2 < 2 ^ 64
