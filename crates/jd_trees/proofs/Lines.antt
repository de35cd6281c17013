-- A line of a proof that is written reads back, in words that are proper.
use Rattle.std.proofs.Common.{◌≡◌, ℕ, zero, suc, ◌^◌, ◌<◌, ◌&&◌, ℤ, pos, negsuc, Bool, true, false, List, [], ◌∷◌, ◌++◌, map, Option, Some, None, refl, ap, ◌∙◌, arith, append_assoc, codes, length, get_or}
use Rattle.std.specs.Prelude.{decimal, nat_abs}
use Rattle.std.specs.Cmp.Derive.{both_true}
use Rattle.std.specs.List.{All, list_all}
use Rattle.std.proofs.lemmas.List.Elements.{All-head, All-tail}
use Rattle.std.proofs.lemmas.List.Folds.{list_all-append}
use Rattle.jd_logic.specs.declared.Line.{Line}
use Rattle.jd_logic.specs.declared.Line.TheVariants.{Derive, Delete}
use Rattle.jd_logic.specs.Numerals.{integer_of}
use Rattle.jd_text.specs.Words.{is_text, are_texts}
use Rattle.jd_logic.specs.Literals.{IsId, IsLiteral, IsHint, AreLiterals, AreHints, AreIds}
use Rattle.jd_logic.specs.LratText.{Ended, with_number, to_zero, to_last_zero, is_literal, is_hint, is_id, deletion_of, derivation_of, line_of, line_after}
use Rattle.jd_text.proofs.WrittenLines.{is_proper}
use Rattle.jd_text.proofs.Tests.{test-less}
use Rattle.jd_logic.proofs.LineRanges.{of_word}
use Rattle.jd_logic.specs.Ranges.{IsLine}
use Rattle.jd_trees.specs.CertLines.{only}
use Rattle.jd_trees.specs.CertWriter.{signed_text, ended, proof_words}
use Rattle.jd_trees.proofs.Numbers.{integer-back, signed-back, signed-not-d, signed-proper}

-- ---- lists of numbers

record Fits (fits : ℤ → Bool) (z : ℤ) : Type 0 where
  pub fit : fits z ≡ true
  pub not_zero : 0 < nat_abs z
  pub small : nat_abs z < 2 ^ 64

literal-fits : (z : ℤ) → IsLiteral z → Fits is_literal z
literal-fits z is = record { fit = test-less (nat_abs z) (2 ^ 31) is.bounded; not_zero = is.not_zero; small = let h = is.bounded in omega (arith, h) }

hint-fits : (z : ℤ) → IsHint z → Fits is_hint z
hint-fits z is = record { fit = test-less (nat_abs z) (2 ^ 63) is.bounded; not_zero = is.not_zero; small = let h = is.bounded in omega (arith, h) }

id-fit : (id : ℕ) → IsId id → is_id (pos id) ≡ true
id-fit id is = both_true (test-less 0 id is.not_zero) (test-less id (2 ^ 63) is.bounded)

id-fits : (id : ℕ) → IsId id → Fits is_id (pos id)
id-fits id is = record { fit = id-fit id is; not_zero = is.not_zero; small = let h = is.bounded in omega (arith, h) }

number-taken : (fits : ℤ → Bool) (z : ℤ) (word : List ℕ) (words : List (List ℕ)) → Fits fits z → integer_of word ≡ Some z → to_zero fits (word ∷ words) ≡ with_number z (to_zero fits words)
number-taken fits z word words h is = ap (λ o. of_word fits o (to_zero fits words) words) is ∙ by z h
  where
    by : (z : ℤ) → Fits fits z → of_word fits (Some z) (to_zero fits words) words ≡ with_number z (to_zero fits words)
    by (pos zero) h = absurd (omega (arith, h.not_zero))
    by (pos (suc k)) h = rw h.fit refl
    by (negsuc k) h = rw h.fit refl

-- numbers that are written before words, with the 0 between
signed-list : (fits : ℤ → Bool) (zs : List ℤ) (words : List (List ℕ)) → All (Fits fits) zs → to_zero fits (map signed_text zs ++ codes "0" ∷ words) ≡ Some (zs, words)
signed-list fits [] words h = refl
signed-list fits (z ∷ zs) words h =
    let one : Fits fits z = All-head (Fits fits) z zs h in
    number-taken fits z (signed_text z) (map signed_text zs ++ codes "0" ∷ words) one (signed-back z one.small)
    ∙ ap (with_number z) (signed-list fits zs words (All-tail (Fits fits) z zs h))

id-list : (ids : List ℕ) → AreIds ids → to_zero is_id (map decimal ids ++ codes "0" ∷ []) ≡ Some (map (λ n. pos n) ids, [])
id-list [] h = refl
id-list (id ∷ ids) h =
    let one : Fits is_id (pos id) = id-fits id (All-head IsId id ids h) in
    number-taken is_id (pos id) (decimal id) (map decimal ids ++ codes "0" ∷ []) one (integer-back id one.small)
    ∙ ap (with_number (pos id)) (id-list ids (All-tail IsId id ids h))

fits-all : (P : ℤ → Type 0) (fits : ℤ → Bool) → ((z : ℤ) → P z → Fits fits z) → (zs : List ℤ) → All P zs → All (Fits fits) zs
fits-all P fits h zs a k d k< = h _ (a k d k<)

last-zero : (fits : ℤ → Bool) (words : List (List ℕ)) (zs : List ℤ) → to_zero fits words ≡ Some (zs, []) → to_last_zero fits words ≡ Some zs
last-zero fits words zs is = rw (is, to_last_zero) refl

abs-pos : (ids : List ℕ) → map nat_abs (map (λ n. pos n) ids) ≡ ids
abs-pos [] = refl
abs-pos (id ∷ ids) = ap (λ xs. id ∷ xs) (abs-pos ids)

-- ---- lines

deletion-back : (ids : List ℕ) → AreIds ids → deletion_of (ended (map decimal ids)) ≡ Some (Delete ids)
deletion-back ids h =
    let is : to_last_zero is_id (ended (map decimal ids)) ≡ Some (map (λ n. pos n) ids) = last-zero is_id (ended (map decimal ids)) (map (λ n. pos n) ids) (id-list ids h) in
    rw (is, deletion_of) (ap (λ ids. Some (Delete ids)) (abs-pos ids))

derivation-back : (id : ℕ) (clause hints : List ℤ) → AreLiterals clause → AreHints hints
    → derivation_of id (ended (map signed_text clause) ++ ended (map signed_text hints)) ≡ Some (Derive id clause hints)
derivation-back id clause hints c h =
    let parted : ended (map signed_text clause) ++ ended (map signed_text hints) ≡ map signed_text clause ++ codes "0" ∷ ended (map signed_text hints)
    = append_assoc (map signed_text clause) (codes "0" ∷ []) (ended (map signed_text hints)) in
    let first : to_zero is_literal (ended (map signed_text clause) ++ ended (map signed_text hints)) ≡ Some (clause, ended (map signed_text hints))
    = ap (to_zero is_literal) parted ∙ signed-list is_literal clause (ended (map signed_text hints)) (fits-all IsLiteral is_literal literal-fits clause c) in
    let second : to_last_zero is_hint (ended (map signed_text hints)) ≡ Some hints
    = last-zero is_hint (ended (map signed_text hints)) hints (signed-list is_hint hints [] (fits-all IsHint is_hint hint-fits hints h)) in
    by (to_zero is_literal (ended (map signed_text clause) ++ ended (map signed_text hints))) first second
  where
    by : (e : Ended) → e ≡ Some (clause, ended (map signed_text hints)) → to_last_zero is_hint (ended (map signed_text hints)) ≡ Some hints
        → ◌≡◌ {A = Option Line} (elim e [ None ↦ None | Some e ↦ (elim (to_last_zero is_hint e.1) [ None ↦ None | Some hints ↦ Some (Derive id e.0 hints) ]) ]) (Some (Derive id clause hints))
    by e is second = rw (is, second) refl

-- what follows the id of a derivation doesn't begin with `d`
after-back : (id : ℕ) (clause hints : List ℤ) → AreLiterals clause → AreHints hints
    → line_after id (ended (map signed_text clause) ++ ended (map signed_text hints)) ≡ Some (Derive id clause hints)
after-back id [] hints c h = derivation-back id [] hints c h
after-back id (z ∷ clause) hints c h =
    let one : Fits is_literal z = literal-fits z (All-head IsLiteral z clause c) in
    by (is_text (codes "d") (signed_text z)) (signed-not-d z one.small)
  where
    rest : List (List ℕ)
    rest = (map signed_text clause ++ codes "0" ∷ []) ++ ended (map signed_text hints)

    by : (b : Bool) → b ≡ false → ◌≡◌ {A = Option Line} (elim b [ true ↦ deletion_of rest | false ↦ derivation_of id (signed_text z ∷ rest) ]) (Some (Derive id (z ∷ clause) hints))
    by true e = cc
    by false e = derivation-back id (z ∷ clause) hints c h

with-id : (id : ℕ) (word : List ℕ) (words : List (List ℕ)) → is_id (pos id) ≡ true → integer_of word ≡ Some (pos id) → line_of (word ∷ words) ≡ line_after id words
with-id id word words fit is = by (integer_of word) is
  where
    by : (o : Option ℤ) → o ≡ Some (pos id) → ◌≡◌ {A = Option Line} (elim o [ None ↦ None | Some id ↦ (elim (is_id id) [ true ↦ line_after (nat_abs id) words | false ↦ None ]) ]) (line_after id words)
    by o is = rw is (choose (is_id (pos id)) fit)
      where
        choose : (b : Bool) → b ≡ true → ◌≡◌ {A = Option Line} (elim b [ true ↦ line_after id words | false ↦ None ]) (line_after id words)
        choose true e = refl
        choose false e = cc

pub line-back : (line : Line) → IsLine line → line_of (proof_words line) ≡ Some line
line-back (Derive id clause hints) is =
    with-id id (decimal id) (ended (map signed_text clause) ++ ended (map signed_text hints)) (id-fit id is.id_in) (integer-back id (id-fits id is.id_in).small)
    ∙ after-back id clause hints is.clause_in is.hints_in
line-back (Delete ids) is = deletion-back ids is

-- a line of a proof is not the word `end`
two-words : (text word : List ℕ) (words : List (List ℕ)) → are_texts [] words ≡ false → are_texts (only text) (word ∷ words) ≡ false
two-words text word words more = by (is_text text word) (are_texts [] words) more
  where
    by : (a b : Bool) → b ≡ false → (a && b) ≡ false
    by true b h = h
    by false b h = refl

pub not-end : (line : Line) → are_texts (only (codes "end")) (proof_words line) ≡ false
not-end (Derive id [] hints) = two-words (codes "end") (decimal id) (ended (map signed_text []) ++ ended (map signed_text hints)) refl
not-end (Derive id (z ∷ clause) hints) = two-words (codes "end") (decimal id) (ended (map signed_text (z ∷ clause)) ++ ended (map signed_text hints)) refl
not-end (Delete ids) = refl

-- ---- words

signed-words : (zs : List ℤ) → ((k : ℕ) (d : ℤ) → k < length zs → nat_abs (get_or zs k d) < 2 ^ 64) → list_all is_proper (map signed_text zs) ≡ true
signed-words [] h = refl
signed-words (z ∷ zs) h = both_true (signed-proper z (h 0 z (omega arith))) (signed-words zs (λ k d k<. h (suc k) d (omega (arith, k<))))

ended-words : (words : List (List ℕ)) → list_all is_proper words ≡ true → list_all is_proper (ended words) ≡ true
ended-words words h = list_all-append is_proper words (codes "0" ∷ []) ∙ both_true h refl

id-words : (ids : List ℕ) → AreIds ids → list_all is_proper (map decimal ids) ≡ true
id-words [] h = refl
id-words (id ∷ ids) h = both_true (signed-proper (pos id) (id-fits id (All-head IsId id ids h)).small) (id-words ids (All-tail IsId id ids h))

pub proof-proper : (line : Line) → IsLine line → list_all is_proper (proof_words line) ≡ true
proof-proper (Derive id clause hints) is =
    both_true (signed-proper (pos id) (id-fits id is.id_in).small)
    (list_all-append is_proper (ended (map signed_text clause)) (ended (map signed_text hints))
    ∙ both_true (ended-words (map signed_text clause) (signed-words clause (λ k d k<. (literal-fits (get_or clause k d) (is.clause_in k d k<)).small)))
    (ended-words (map signed_text hints) (signed-words hints (λ k d k<. (hint-fits (get_or hints k d) (is.hints_in k d k<)).small))))
proof-proper (Delete ids) is = ended-words (map decimal ids) (id-words ids is)
