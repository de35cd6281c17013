-- What is written of a routine, one code more, and all of it.
use Rattle.std.proofs.Common.{◌≡◌, ℕ, zero, suc, ◌+◌, ◌<◌, ◌≤◌, false, List, [], ◌∷◌, ◌++◌, length, get_or, take, map, refl, sym, ap, ◌∙◌, arith, subst, append_assoc}
use Rattle.std.specs.Prelude.{Ok, ◌==◌}
use Rattle.std.specs.List.{join_with_byte}
use Rattle.std.proofs.lemmas.Bool.Decides.{nat_tests}
use Rattle.std.proofs.lemmas.List.{take_more, take_all, map-append, length-take-le}
use Rattle.jd_model.specs.Assembly.{assembled, listing, routine_of_codes, code_text, codes_text}
use Rattle.jd_model.specs.Assembly.{IsRoutine}
use Rattle.jd_model.proofs.ReadBack.{assembled-listing, read-codes}
use Rattle.hp_asm.specs.Separated.{after}

module _ (routine codes text : List ℕ) (i : ℕ) (is : IsRoutine codes) (same : codes ≡ routine) (end : length codes ≤ i) where
  pub listing-back : text ≡ listing (take i routine) → assembled text ≡ Ok routine
  listing-back e =
      let all : take i routine ≡ routine = take_all i routine (subst (λ xs. length xs ≤ i) same end) in
      ap assembled (e ∙ ap listing all) ∙ assembled-listing routine (subst IsRoutine same is)

  pub codes-back : text ≡ codes_text (take i codes) → routine_of_codes text ≡ Ok routine
  codes-back e =
      ap routine_of_codes (e ∙ ap codes_text (take_all i codes end ∙ same)) ∙ read-codes routine (subst IsRoutine same is)

join-more : (texts : List (List ℕ)) (text : List ℕ) → 0 < length texts → join_with_byte 32 (texts ++ text ∷ []) ≡ join_with_byte 32 texts ++ 32 ∷ text
join-more [] text some = absurd (omega arith)
join-more (first ∷ []) text some = refl
join-more (first ∷ next ∷ texts) text some =
    ap (λ xs. first ++ 32 ∷ xs) (join-more (next ∷ texts) text (omega arith))
    ∙ sym (append_assoc first (32 ∷ join_with_byte 32 (next ∷ texts)) (32 ∷ text))

length-map : (xs : List ℕ) → length (map code_text xs) ≡ length xs
length-map [] = refl
length-map (x ∷ xs) = ap suc (length-map xs)

after-some : (n : ℕ) (text : List ℕ) → after (suc n) text ≡ 32 ∷ text
after-some n text = let e : (suc n == 0) ≡ false = grind (arith, nat_tests) in rw e

-- a code more
pub code-turn : (codes : List ℕ) (i : ℕ) → i < length codes
    → join_with_byte 32 (map code_text (take i codes)) ++ after i (code_text (get_or codes i 0)) ≡ join_with_byte 32 (map code_text (take (i + 1) codes))
code-turn [] i inside = absurd (omega arith)
code-turn (code ∷ codes) zero inside = refl
code-turn (code ∷ codes) (suc n) inside =
    let all = code ∷ codes in
    let before = take (suc n) all in
    let some : 0 < length (map code_text before) = omega (arith, length-map before, length-take-le (suc n) all (omega arith)) in
    ap (λ xs. join_with_byte 32 (map code_text before) ++ xs) (after-some n (code_text (get_or all (suc n) 0)))
    ∙ sym (ap (λ xs. join_with_byte 32 (map code_text xs)) (take_more all (suc n) 0 inside)
    ∙ ap (join_with_byte 32) (map-append code_text before (get_or all (suc n) 0 ∷ []))
    ∙ join-more (map code_text before) (code_text (get_or all (suc n) 0)) some)
