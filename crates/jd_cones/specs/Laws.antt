-- What is proved of cones.
use Rattle.jd_model.specs.Problems.{Problem}
use Rattle.jd_books.specs.Leaves.{Leaf, IsLeaf, Claim, IsFaithfulTo}
use Rattle.jd_cones.specs.Cones.{IsConeOf}

-- the cone of a faithful leaf is faithful
abbrev pub FaithfulCones : Type 0
FaithfulCones = (p : Problem) (claim : Claim) (whole cone : Leaf) → IsFaithfulTo p claim whole → IsConeOf whole cone → IsLeaf cone → IsFaithfulTo p claim cone
