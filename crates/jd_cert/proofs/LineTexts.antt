-- The text of a line of a proof, number by number.
use Rattle.std.proofs.Common.{◌≡◌, ℕ, ℤ, List, [], ◌∷◌, ◌++◌, map, refl, ap, sym, ◌∙◌, append_assoc, append-nil, codes}
use Rattle.std.specs.Prelude.{decimal, flat_map}
use Rattle.std.specs.Fmt.{signed_decimal}
use Rattle.std.specs.List.{join_with_byte}
use Rattle.std.proofs.lemmas.List.Concat.{flat_map-append}
use Rattle.jd_logic.specs.declared.Line.TheVariants.{Derive, Delete}
use Rattle.jd_text.specs.Words.{line, written}
use Rattle.jd_trees.specs.CertWriter.{proof_words, signed_text}

abbrev pub spaced : List ℕ → List ℕ
spaced word = word ++ 32 ∷ []

before-line : (word next : List ℕ) (words : List (List ℕ)) → spaced word ++ line (next ∷ words) ≡ line (word ∷ next ∷ words)
before-line word next words =
    append_assoc word (32 ∷ []) (line (next ∷ words)) ∙ sym (append_assoc word (32 ∷ join_with_byte 32 (next ∷ words)) (10 ∷ []))

-- words with a blank after each, and a last word
line-words : (words : List (List ℕ)) (last : List ℕ) → flat_map spaced words ++ (last ++ 10 ∷ []) ≡ line (words ++ last ∷ [])
line-words [] last = refl
line-words (word ∷ []) last = append_assoc (spaced word) [] (last ++ 10 ∷ []) ∙ before-line word last []
line-words (word ∷ next ∷ words) last =
    append_assoc (spaced word) (flat_map spaced (next ∷ words)) (last ++ 10 ∷ [])
    ∙ ap (λ t. spaced word ++ t) (line-words (next ∷ words) last)
    ∙ before-line word next (words ++ last ∷ [])

flat-map : {X : Type 0} (f : X → List ℕ) (xs : List X) → flat_map spaced (map f xs) ≡ flat_map (λ x. f x ++ 32 ∷ []) xs
flat-map f [] = refl
flat-map f (x ∷ xs) = ap (λ t. spaced (f x) ++ t) (flat-map f xs)

pub derive-text : (id : ℕ) (clause hints : List ℤ)
    → (decimal id ++ 32 ∷ []) ++ (flat_map (λ z. signed_decimal z ++ 32 ∷ []) clause ++ (codes "0 " ++ (flat_map (λ z. signed_decimal z ++ 32 ∷ []) hints ++ codes "0\n")))
    ≡ line (proof_words (Derive id clause hints))
derive-text id clause hints =
    let a : List (List ℕ) = map signed_text clause in
    let b : List (List ℕ) = map signed_text hints in
    let words : List (List ℕ) = decimal id ∷ (a ++ codes "0" ∷ b) in
    let same : proof_words (Derive id clause hints) ≡ words ++ codes "0" ∷ []
    = ap (λ ws. decimal id ∷ ws) (append_assoc a (codes "0" ∷ []) (b ++ codes "0" ∷ []) ∙ sym (append_assoc a (codes "0" ∷ b) (codes "0" ∷ []))) in
    let rest : flat_map spaced (a ++ codes "0" ∷ b) ≡ flat_map (λ z. signed_decimal z ++ 32 ∷ []) clause ++ (codes "0 " ++ flat_map (λ z. signed_decimal z ++ 32 ∷ []) hints)
    = flat_map-append spaced a (codes "0" ∷ b) ∙ ap (λ t. t ++ (codes "0 " ++ flat_map spaced b)) (flat-map signed_decimal clause)
    ∙ ap (λ t. flat_map (λ z. signed_decimal z ++ 32 ∷ []) clause ++ (codes "0 " ++ t)) (flat-map signed_decimal hints) in
    let all : flat_map spaced words ++ codes "0\n" ≡ spaced (decimal id) ++ (flat_map (λ z. signed_decimal z ++ 32 ∷ []) clause ++ (codes "0 " ++ (flat_map (λ z. signed_decimal z ++ 32 ∷ []) hints ++ codes "0\n")))
    = append_assoc (spaced (decimal id)) (flat_map spaced (a ++ codes "0" ∷ b)) (codes "0\n")
    ∙ ap (λ t. spaced (decimal id) ++ (t ++ codes "0\n")) rest
    ∙ ap (λ t. spaced (decimal id) ++ t) (append_assoc (flat_map (λ z. signed_decimal z ++ 32 ∷ []) clause) (codes "0 " ++ flat_map (λ z. signed_decimal z ++ 32 ∷ []) hints) (codes "0\n")) in
    sym all ∙ line-words words (codes "0") ∙ ap line (sym same)

pub delete-text : (ids : List ℕ) → codes "1 d " ++ (flat_map (λ n. decimal n ++ 32 ∷ []) ids ++ codes "0\n") ≡ line (proof_words (Delete ids))
delete-text ids =
    ap (λ t. codes "1 d " ++ (t ++ codes "0\n")) (sym (flat-map decimal ids))
    ∙ line-words (codes "1" ∷ codes "d" ∷ map decimal ids) (codes "0")

-- ---- lists of lines

written-append : (one other : List (List (List ℕ))) → written (one ++ other) ≡ written one ++ written other
written-append one other = flat_map-append line one other

pub written-map : {X : Type 0} (f : X → List (List ℕ)) (xs : List X) → flat_map (λ x. line (f x)) xs ≡ written (map f xs)
written-map f [] = refl
written-map f (x ∷ xs) = ap (λ t. line (f x) ++ t) (written-map f xs)

pub written-flat_map : {X : Type 0} (f : X → List (List (List ℕ))) (xs : List X) → flat_map (λ x. written (f x)) xs ≡ written (flat_map f xs)
written-flat_map f [] = refl
written-flat_map f (x ∷ xs) = ap (λ t. written (f x) ++ t) (written-flat_map f xs) ∙ sym (written-append (f x) (flat_map f xs))

pub written-log : {X : Type 0} (f : X → List (List ℕ)) (xs : List X) (last : List (List ℕ)) → flat_map (λ x. line (f x)) xs ++ line last ≡ written (map f xs ++ last ∷ [])
written-log f xs last =
    ap (λ t. t ++ line last) (written-map f xs) ∙ ap (λ t. written (map f xs) ++ t) (sym (append-nil (line last))) ∙ sym (written-append (map f xs) (last ∷ []))
