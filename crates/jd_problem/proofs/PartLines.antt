-- The lines of a problem that are written part by part: one part more.
use Rattle.std.proofs.Common.{◌≡◌, ℕ, ◌+◌, ◌<◌, ◌≤◌, Bool, true, false, cond, nat_lt, arith, List, [], ◌∷◌, ◌++◌, length, get_or, drop, Option, None, refl, sym, ap, ◌∙◌, append_assoc, append-nil}
use Rattle.std.specs.List.{join_with_byte}
use Rattle.std.proofs.lemmas.Grind.{flat_map-append}
use Rattle.std.proofs.lemmas.Bool.Decides.{nat_tests}
use Rattle.std.proofs.lemmas.List.{drop_more, drop_all, get_or_past}
use Rattle.jd_text.specs.Words.{line, written}
use Rattle.jd_model.specs.ProblemWriter.{chosen, fix_line, fix_lines}
use Rattle.jd_start.specs.Written.{spaced}
use Rattle.jd_start.proofs.PartByPart.{chosen-next}

joined : (first : List ℕ) (words : List (List ℕ)) → join_with_byte 32 (first ∷ words) ≡ first ++ spaced words
joined first [] = sym (append-nil first)
joined first (word ∷ words) = ap (λ text. first ++ 32 ∷ text) (joined word words)

-- a line is its first word, and the others after blanks
line-spaced : (first : List ℕ) (words : List (List ℕ)) → line (first ∷ words) ≡ (first ++ spaced words) ++ 10 ∷ []
line-spaced first words = ap (λ text. text ++ 10 ∷ []) (joined first words)

-- a line is added word by word
pub line-added : (text first : List ℕ) (words : List (List ℕ)) → ((text ++ first) ++ spaced words) ++ 10 ∷ [] ≡ text ++ line (first ∷ words)
line-added text first words =
    ap (λ all. all ++ 10 ∷ []) (append_assoc text first (spaced words)) ∙ append_assoc text (first ++ spaced words) (10 ∷ [])
    ∙ ap (λ all. text ++ all) (sym (line-spaced first words))

fix_lines-none : (names : List (List ℕ)) → fix_lines names [] ≡ []
fix_lines-none [] = refl
fix_lines-none (name ∷ names) = refl

-- the same of the lines of fixed parts
fix_lines-next : (names : List (List ℕ)) (values : List (Option ℕ)) (place : ℕ) → place < length names
    → fix_lines (drop place names) (drop place values) ≡ fix_line (get_or names place []) (get_or values place None) ++ fix_lines (drop (place + 1) names) (drop (place + 1) values)
fix_lines-next names values place short = by (nat_lt place (length values)) refl
  where
    next : drop place names ≡ get_or names place [] ∷ drop (place + 1) names
    next = drop_more names place [] short

    by : (more : Bool) → nat_lt place (length values) ≡ more
        → fix_lines (drop place names) (drop place values) ≡ fix_line (get_or names place []) (get_or values place None) ++ fix_lines (drop (place + 1) names) (drop (place + 1) values)
    by true is =
        ap (λ ns. fix_lines ns (drop place values)) next
        ∙ ap (λ vs. fix_lines (get_or names place [] ∷ drop (place + 1) names) vs) (drop_more values place None (grind (arith, nat_tests)))
    by false is =
        let past : length values ≤ place = grind (arith, nat_tests) in
        ap (λ ns. fix_lines ns (drop place values)) next
        ∙ ap (λ vs. fix_lines (get_or names place [] ∷ drop (place + 1) names) vs) (drop_all place values past)
        ∙ sym (ap (λ v. fix_line (get_or names place []) v ++ fix_lines (drop (place + 1) names) (drop (place + 1) values)) (get_or_past values place None past)
        ∙ ap (λ vs. fix_lines (drop (place + 1) names) vs) (drop_all (place + 1) values (omega arith)) ∙ fix_lines-none (drop (place + 1) names))

pub names-next : (marks : List Bool) (names : List (List ℕ)) (place : ℕ) → place < length names
    → spaced (chosen (drop place marks) (drop place names))
    ≡ spaced (cond (get_or marks place false) (get_or names place [] ∷ []) []) ++ spaced (chosen (drop (place + 1) marks) (drop (place + 1) names))
names-next marks names place short =
    ap spaced (chosen-next marks names place [] short)
    ∙ flat_map-append (λ word. 32 ∷ word) (cond (get_or marks place false) (get_or names place [] ∷ []) []) (chosen (drop (place + 1) marks) (drop (place + 1) names))

pub fixed-next : (names : List (List ℕ)) (values : List (Option ℕ)) (place : ℕ) → place < length names
    → written (fix_lines (drop place names) (drop place values))
    ≡ written (fix_line (get_or names place []) (get_or values place None)) ++ written (fix_lines (drop (place + 1) names) (drop (place + 1) values))
fixed-next names values place short =
    ap written (fix_lines-next names values place short)
    ∙ flat_map-append line (fix_line (get_or names place []) (get_or values place None)) (fix_lines (drop (place + 1) names) (drop (place + 1) values))
