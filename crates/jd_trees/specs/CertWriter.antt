-- The canonical text of a certificate.
use Rattle.std.specs.Fmt.{signed_decimal}
use Rattle.std.specs.Prelude.{ℕ, ℤ, List, [], ◌∷◌, ◌++◌, codes, decimal, map, flat_map}
use Rattle.jd_logic.specs.declared.Line.{Line}
use Rattle.jd_logic.specs.declared.Line.TheVariants.{Derive, Delete}
use Rattle.jd_text.specs.Words.{written}
use Rattle.jd_trees.specs.declared.Node.{Node}
use Rattle.jd_trees.specs.declared.Node.TheVariants.{Fork, Leaf, Cut}
use Rattle.jd_trees.specs.CertLines.{first_words, only}

-- a number with its sign
abbrev pub signed_text : ℤ → List ℕ
signed_text z = signed_decimal z

-- numbers, and the 0 that ends them
abbrev pub ended : List (List ℕ) → List (List ℕ)
ended numbers = numbers ++ codes "0" ∷ []

-- the words of a line of a proof. A deletion has the id 1
abbrev pub proof_words : Line → List (List ℕ)
proof_words (Derive id clause hints) = decimal id ∷ (ended (map signed_text clause) ++ ended (map signed_text hints))
proof_words (Delete ids) = codes "1" ∷ codes "d" ∷ ended (map decimal ids)

abbrev pub log_lines : List Line → List (List (List ℕ))
log_lines log = map proof_words log ++ only (codes "end") ∷ []

abbrev pub node_lines : Node → List (List (List ℕ))
node_lines Fork = only (codes "fork") ∷ []
node_lines (Leaf log) = only (codes "leaf") ∷ log_lines log
node_lines (Cut log) = only (codes "cut") ∷ log_lines log

abbrev pub certificate_lines : List Node → List (List (List ℕ))
certificate_lines nodes = first_words ∷ flat_map node_lines nodes

abbrev pub certificate_text : List Node → List ℕ
certificate_text nodes = written (certificate_lines nodes)
