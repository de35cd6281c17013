-- Worked certificates.
use Rattle.std.specs.Prelude.{◌≡◌, ℕ, pos, negsuc, true, false, List, [], ◌∷◌, codes, Ok, Err, Some}
use Rattle.jd_logic.specs.declared.Line.TheVariants.{Derive, Delete}
use Rattle.jd_trees.specs.declared.Node.{Node}
use Rattle.jd_trees.specs.declared.Node.TheVariants.{Fork, Leaf, Cut}
use Rattle.jd_text.specs.Words.{word_lines}
use Rattle.jd_trees.specs.declared.Spot.{Spot}
use Rattle.jd_trees.specs.declared.CertEvent.{CertEvent}
use Rattle.jd_trees.specs.declared.CertEvent.TheVariants as event
use Rattle.jd_trees.specs.CertLines.{first_spot}
use Rattle.jd_trees.specs.CertTexts.{certificate_of}
use Rattle.jd_trees.specs.Events.{events_after}
use Rattle.jd_trees.specs.CertWriter.{certificate_text}

abbrev pub Reads : List ℕ → List Node → Type 0
Reads text nodes = certificate_of text ≡ Ok nodes

abbrev pub IsBad : List ℕ → ℕ → Type 0
IsBad text line = certificate_of text ≡ Err line

-- a leaf with a derivation and a deletion
abbrev pub one_leaf : List Node
one_leaf = Leaf (Derive 5 (pos 2 ∷ []) (pos 1 ∷ pos 2 ∷ []) ∷ Delete (1 ∷ []) ∷ []) ∷ []

-- the events of a text's lines, with the spot after them
abbrev pub Tells : List ℕ → List CertEvent → Spot → Type 0
Tells text events spot = events_after first_spot (word_lines text) ≡ Some (events, spot)

pub record WorkedCertificates : Type 0 where
  pub one_cut : Reads (codes "certificate 1\ncut\nend\n") (Cut [] ∷ [])
  pub two_leaves : Reads (codes "certificate 1\nfork\nleaf\nend\nleaf\nend\n") (Fork ∷ Leaf [] ∷ Leaf [] ∷ [])
  pub fork_within_fork : Reads (codes "certificate 1\nfork\nfork\ncut\nend\nleaf\nend\ncut\nend") (Fork ∷ Fork ∷ Cut [] ∷ Leaf [] ∷ Cut [] ∷ [])
  pub lines_in_leaf : Reads (codes "certificate 1\nleaf\n5 2 0 1 2 0\n7 d 1 0\nend\n") one_leaf
  pub written_back : certificate_text one_leaf ≡ codes "certificate 1\nleaf\n5 2 0 1 2 0\n1 d 1 0\nend\n"
  pub negative_numbers : certificate_text (Cut (Derive 3 (negsuc 0 ∷ []) (negsuc 1 ∷ []) ∷ []) ∷ []) ≡ codes "certificate 1\ncut\n3 -1 0 -2 0\nend\n"
  pub empty_lines : Reads (codes "\n\t\ncertificate 1\n\n cut\r\n \t\r\nend\n\n\r\n") (Cut [] ∷ [])
  pub no_last_line_feed : Reads (codes "certificate\t1\r\ncut\r\nend") (Cut [] ∷ [])
  pub nothing : IsBad (codes "") 1
  pub no_words : IsBad (codes "\n \n") 3
  pub first_line_alone : IsBad (codes "certificate 1\n") 2
  pub ends_too_early : IsBad (codes "certificate 1\nfork\nleaf\nend\n") 5
  pub one_line_more : IsBad (codes "certificate 1\ncut\nend\ncut\n") 4
  pub end_again : IsBad (codes "certificate 1\ncut\nend\nend\n") 4
  pub leaf_without_end : IsBad (codes "certificate 1\nleaf\n5 2 0 1 2 0\n") 4
  pub leaf_in_leaf : IsBad (codes "certificate 1\nleaf\n\nleaf\nend\n") 4
  pub end_without_leaf : IsBad (codes "certificate 1\nend\n") 2
  pub line_outside : IsBad (codes "certificate 1\n5 2 0 1 2 0\n") 2
  pub other_version : IsBad (codes "certificate 2\ncut\nend\n") 1
  pub no_first_line : IsBad (codes "cut\nend\n") 1
  pub first_line_twice : IsBad (codes "certificate 1\ncertificate 1\n") 2
  pub word_more : IsBad (codes "certificate 1\nfork 1\n") 2
  pub hints_unended : IsBad (codes "certificate 1\ncut\n5 2 0 1 2\nend\n") 3
  pub greatest_id : Reads (codes "certificate 1\ncut\n9223372036854775807 0 1 0\nend\n") (Cut (Derive 9223372036854775807 [] (pos 1 ∷ []) ∷ []) ∷ [])
  pub one_id_more : IsBad (codes "certificate 1\ncut\n9223372036854775808 0 1 0\nend\n") 3
  pub first_bad_line : IsBad (codes "certificate 1\ncut\n0\nx\n") 3
  pub events_so_far : Tells (codes "certificate 1\n\nfork\ncut\n3 1 0 2 0\nend\nleaf\n")
      (event.Fork ∷ event.Cut ∷ event.Proof (Derive 3 (pos 1 ∷ []) (pos 2 ∷ [])) ∷ event.End ∷ event.Leaf ∷ []) (record { begun = true; due = 1; inside = true })
  pub events_of_all : Tells (codes "certificate 1\ncut\nend\n \n") (event.Cut ∷ event.End ∷ []) (record { begun = true; due = 0; inside = false })
