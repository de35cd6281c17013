-- The lines of a certificate, one after another. What a line may say depends only on the spot where it stands.
use Rattle.std.specs.Prelude.{ℕ, suc, ◌-◌, Bool, true, false, not, ◌&&◌, ◌==◌, if◌then◌else◌, List, [], ◌∷◌, codes, Option, Some, None}
use Rattle.jd_logic.specs.LratText.{line_of}
use Rattle.jd_text.specs.Words.{are_texts}
use Rattle.jd_trees.specs.declared.Spot.{Spot}
use Rattle.jd_trees.specs.declared.CertEvent.{CertEvent}
use Rattle.jd_trees.specs.declared.CertEvent.TheVariants.{Nothing, Fork, Leaf, Cut, Proof, End}

abbrev pub first_spot : Spot
first_spot = record { begun = false; due = 1; inside = false }

-- the tree is whole
abbrev pub is_whole : Spot → Bool
is_whole s = s.begun && (s.due == 0) && not s.inside

-- what a line says, and the spot after it
abbrev pub Said : Type 0
Said = Option (CertEvent × Spot)

abbrev pub first_words : List (List ℕ)
first_words = codes "certificate" ∷ codes "1" ∷ []

abbrev pub only : List ℕ → List (List ℕ)
only word = word ∷ []

abbrev pub first_line : Spot → List (List ℕ) → Said
first_line s words = if are_texts first_words words then Some (Nothing, record s { begun = true }) else None

-- where a tree is due, or none
abbrev pub tree_line : Spot → List (List ℕ) → Said
tree_line s words =
    if s.due == 0 then None else
    if are_texts (only (codes "fork")) words then Some (Fork, record s { due = suc s.due }) else
    if are_texts (only (codes "leaf")) words then Some (Leaf, record s { inside = true }) else
    if are_texts (only (codes "cut")) words then Some (Cut, record s { inside = true }) else None

abbrev pub proof_line : Spot → List (List ℕ) → Said
proof_line s words = elim (line_of words) [ None ↦ None | Some line ↦ Some (Proof line, s) ]

-- in a leaf or a cut
abbrev pub log_line : Spot → List (List ℕ) → Said
log_line s words =
    if are_texts (only (codes "end")) words then Some (End, record s { due = s.due - 1; inside = false }) else
    proof_line s words

abbrev pub begun_line : Spot → List (List ℕ) → Said
begun_line s words = if s.inside then log_line s words else tree_line s words

abbrev pub spoken_line : Spot → List (List ℕ) → Said
spoken_line s words = if s.begun then begun_line s words else first_line s words

-- what a line says by its words, or None where it is bad
abbrev pub said : Spot → List (List ℕ) → Said
said s [] = Some (Nothing, s)
said s (word ∷ words) = spoken_line s (word ∷ words)
