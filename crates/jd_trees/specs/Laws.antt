-- What is proved of certificates.
use Rattle.std.specs.Prelude.{◌≡◌, ℕ, List, Ok, Some}
use Rattle.jd_trees.specs.declared.Node.{Node}
use Rattle.jd_trees.specs.declared.Spot.{Spot}
use Rattle.jd_trees.specs.declared.CertEvent.{CertEvent}
use Rattle.jd_trees.specs.CertLines.{first_spot}
use Rattle.jd_trees.specs.Events.{events_after, IsTreeSoFar}
use Rattle.jd_trees.specs.Trees.{Tree, preorder, IsCert}
use Rattle.jd_trees.specs.CertTexts.{certificate_of}
use Rattle.jd_trees.specs.CertWriter.{certificate_text}

-- what is read is the list of the nodes of a tree
abbrev pub CertificatesAreTrees : Type 0
CertificatesAreTrees = (text : List ℕ) (nodes : List Node) → certificate_of text ≡ Ok nodes → IsCert nodes

-- the events of lines, as far as none of these is bad, begin those of a tree, and are all of them where it is whole
abbrev pub EventsAreTrees : Type 0
EventsAreTrees =
    (lines : List (List (List ℕ))) (events : List CertEvent) (spot : Spot) → events_after first_spot lines ≡ Some (events, spot) → IsTreeSoFar events spot

-- a list of nodes is that of one tree at most
abbrev pub TreesAreTold : Type 0
TreesAreTold = (one other : Tree) → preorder one ≡ preorder other → one ≡ other

-- a certificate that is written reads back
abbrev pub CertificatesReadBack : Type 0
CertificatesReadBack = (nodes : List Node) → IsCert nodes → certificate_of (certificate_text nodes) ≡ Ok nodes
