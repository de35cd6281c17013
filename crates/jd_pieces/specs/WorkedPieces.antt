-- Worked rows: the table as assembly text, candidates, and replacements.
use Rattle.std.specs.Prelude.{◌≡◌, ℕ, List, [], ◌∷◌, ◌++◌, map, flat_map, codes}
use Rattle.jd_model.specs.Assembly.{listing, text_of_code}
use Rattle.jd_pieces.specs.declared.places.Candidate.{Candidate}
use Rattle.jd_pieces.specs.Rows.{Row, rows}
use Rattle.jd_pieces.specs.Candidates.{candidates, put}

-- a row as text
abbrev pub row_text : Row → List ℕ
row_text r = listing r.piece ++ codes "->\n" ++ listing r.becomes

abbrev pub at : ℕ → ℕ → Candidate
at place row = record { place = place; row = row }

pub record WorkedPieces : Type 0 where
  pub table : map row_text rows ≡
      codes "ENTER\n+\n->\nSL\n" ∷ codes "x<>y\nx<>y\n->\n" ∷ codes "NOT\nNOT\n->\n" ∷ codes "CHS\nCHS\n->\n"
      ∷ codes "RDN\nRUP\n->\n" ∷ codes "RUP\nRDN\n->\n" ∷ codes "RL\nRR\n->\n" ∷ codes "0\n+\n->\n" ∷ codes "SF 4\nCF 4\n->\nCF 4\n" ∷ []
  -- ENTER, +
  pub doubled : candidates (20 ∷ 16 ∷ []) ≡ at 1 1 ∷ []
  pub doubled_by_shift : put (20 ∷ 16 ∷ []) (at 1 1) ≡ 31 ∷ []
  -- NOT, NOT, NOT: two places, with the same result
  pub three : candidates (49 ∷ 49 ∷ 49 ∷ []) ≡ at 1 3 ∷ at 2 3 ∷ []
  pub three_at_first : put (49 ∷ 49 ∷ 49 ∷ []) (at 1 3) ≡ 49 ∷ []
  pub three_at_second : put (49 ∷ 49 ∷ 49 ∷ []) (at 2 3) ≡ 49 ∷ []
  -- 5, RDN, RUP, RDN, SF 4, CF 4
  pub mixed : candidates (5 ∷ 22 ∷ 23 ∷ 22 ∷ 78 ∷ 84 ∷ []) ≡ at 2 5 ∷ at 3 6 ∷ at 5 9 ∷ []
  pub cleared : put (5 ∷ 22 ∷ 23 ∷ 22 ∷ 78 ∷ 84 ∷ []) (at 5 9) ≡ 5 ∷ 22 ∷ 23 ∷ 22 ∷ 84 ∷ []
