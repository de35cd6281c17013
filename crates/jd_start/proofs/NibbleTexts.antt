-- Nibbles without the zeros at the end.
use Rattle.std.proofs.Common.{◌≡◌, ◌≢◌, ℕ, ◌+◌, ◌≤◌, true, false, List, [], ◌∷◌, ◌++◌, length, get_or, take, map, refl, sym, ap, ◌∙◌, arith}
use Rattle.std.specs.Prelude.{◌==◌}
use Rattle.std.specs.Fmt.{digit_glyph}
use Rattle.std.proofs.lemmas.Bool.Decides.{nat_tests}
use Rattle.std.proofs.lemmas.List.{take_more}
use Rattle.jd_model.specs.StartTexts.{with_nibble, nibbles_text}

zero-last : (ns : List ℕ) → nibbles_text (ns ++ 0 ∷ []) ≡ nibbles_text ns
zero-last [] = refl
zero-last (n ∷ ns) = ap (with_nibble n) (zero-last ns)

abbrev glyphs : List ℕ → List ℕ
glyphs ns = map (digit_glyph true) ns

before-digit : (m n : ℕ) (ns : List ℕ) → with_nibble m (glyphs (ns ++ n ∷ [])) ≡ digit_glyph true m ∷ glyphs (ns ++ n ∷ [])
before-digit m n [] = refl
before-digit m n (k ∷ ns) = refl

digit-last : (n : ℕ) (ns : List ℕ) → n ≢ 0 → nibbles_text (ns ++ n ∷ []) ≡ glyphs (ns ++ n ∷ [])
digit-last n [] some = let e : (n == 0) ≡ false = grind (arith, nat_tests) in rw e refl
digit-last n (m ∷ ns) some = ap (with_nibble m) (digit-last n ns some) ∙ before-digit m n ns

-- what is written of a front of the nibbles, whose last is zero, or not
pub front-zero : (ns : List ℕ) (count left : ℕ) → count ≤ length ns → count ≡ left + 1 → get_or ns left 0 ≡ 0 → nibbles_text (take count ns) ≡ nibbles_text (take left ns)
front-zero ns count left within is none =
    ap (λ k. nibbles_text (take k ns)) is
    ∙ ap nibbles_text (take_more ns left 0 (omega arith) ∙ ap (λ n. take left ns ++ n ∷ []) none)
    ∙ zero-last (take left ns)

pub front-digit : (ns : List ℕ) (count left : ℕ) → count ≤ length ns → count ≡ left + 1 → get_or ns left 0 ≢ 0 → nibbles_text (take count ns) ≡ glyphs (take count ns)
front-digit ns count left within is some =
    let front : take count ns ≡ take left ns ++ get_or ns left 0 ∷ [] = ap (λ k. take k ns) is ∙ take_more ns left 0 (omega arith) in
    ap nibbles_text front ∙ digit-last (get_or ns left 0) (take left ns) some ∙ ap glyphs (sym front)
