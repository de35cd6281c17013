-- Texts of several lines, one after another.
use Rattle.std.proofs.Common.{◌≡◌, ℕ, List, [], ◌∷◌, ◌++◌, append_assoc, append-nil, sym, ◌∙◌}
use Rattle.std.specs.Prelude.{codes}
use Rattle.std.proofs.lemmas.Grind.{flat_map-append}
use Rattle.jd_text.specs.Words.{line, written}

-- a text with some lines added one by one
abbrev pub with_lines : List ℕ → List (List (List ℕ)) → List ℕ
with_lines text [] = text
with_lines text (words ∷ lines) = with_lines (text ++ line words) lines

pub lines-added : (text : List ℕ) (lines : List (List (List ℕ))) → with_lines text lines ≡ text ++ written lines
lines-added text [] = sym (append-nil text)
lines-added text (words ∷ lines) = lines-added (text ++ line words) lines ∙ append_assoc text (line words) (written lines)

pub whole-problem : (headers fixed assumed first second : List (List (List ℕ)))
    → ((((((written headers ++ written fixed) ++ written assumed) ++ codes "first\n") ++ written first) ++ codes "second\n") ++ written second) ++ codes "end\n"
    ≡ written (headers ++ (fixed ++ (assumed ++ ((codes "first" ∷ []) ∷ (first ++ ((codes "second" ∷ []) ∷ (second ++ (codes "end" ∷ []) ∷ [])))))))
whole-problem headers fixed assumed first second = simp (flat_map-append {X = List (List ℕ)} {A = ℕ}, append_assoc {A = ℕ})

pub whole-headers : (text : List ℕ) (machine memory bounds : List (List (List ℕ)))
    → ((text ++ written machine) ++ written memory) ++ written bounds ≡ text ++ written (machine ++ (memory ++ bounds))
whole-headers text machine memory bounds = simp (flat_map-append {X = List (List ℕ)} {A = ℕ}, append_assoc {A = ℕ})
