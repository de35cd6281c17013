-- The names of parts read back as the parts.
use Rattle.std.proofs.Common.{◌≡◌, ℕ, suc, ◌<◌, ◌≤◌, ◌&&◌, ◌==◌, Bool, true, false, cond, List, [], ◌∷◌, ◌++◌, length, replicate, Some, refl, sym, ap, ◌∙◌, arith, append_assoc, length-append}
use Rattle.std.specs.List.{list_any}
use Rattle.std.proofs.Math.Seq.{set-append_seam}
use Rattle.std.proofs.lemmas.Bool.Decides.{nat_tests}
use Rattle.jd_model.specs.ProblemLines.{part_names, part_named, with_part, parts_named, marked}
use Rattle.jd_model.specs.ProblemTexts.{has_twice}
use Rattle.jd_model.specs.ProblemWriter.{chosen}
use Rattle.jd_text.proofs.Tests.{left-part, right-part, is_found, found-is}

-- whether these are the names of the parts from part k on
abbrev pub are_names_from : ℕ → List (List ℕ) → Bool
are_names_from k [] = true
are_names_from k (name ∷ names) = is_found (part_named name) k && are_names_from (suc k) names

pub all-names : are_names_from 0 part_names ≡ true
all-names = refl

-- the numbers of the marked parts, from part k on
abbrev pub places : ℕ → List Bool → List ℕ
places k [] = []
places k (b ∷ bs) = cond b (k ∷ []) [] ++ places (suc k) bs

-- the names of the marked parts
pub names-chosen : (k : ℕ) (names : List (List ℕ)) (bs : List Bool) → are_names_from k names ≡ true → length bs ≤ length names
    → parts_named (chosen bs names) ≡ Some (places k bs)
names-chosen k names [] h few = refl
names-chosen k [] (b ∷ bs) h few = absurd (omega (arith, few))
names-chosen k (name ∷ names) (true ∷ bs) h few =
    ap (λ o. with_part o (parts_named (chosen bs names))) (found-is (part_named name) k (left-part (is_found (part_named name) k) (are_names_from (suc k) names) h))
    ∙ ap (with_part (Some k)) (names-chosen (suc k) names bs (right-part (is_found (part_named name) k) (are_names_from (suc k) names) h) (omega (arith, few)))
names-chosen k (name ∷ names) (false ∷ bs) h few =
    names-chosen (suc k) names bs (right-part (is_found (part_named name) k) (are_names_from (suc k) names) h) (omega (arith, few))

-- no part is named twice
later-places : (i k : ℕ) (bs : List Bool) → i < k → list_any (λ j. j == i) (places k bs) ≡ false
later-places i k [] h = refl
later-places i k (true ∷ bs) h =
    let other : (k == i) ≡ false = grind (arith, nat_tests, h) in
    rw other (later-places i (suc k) bs (omega (arith, h)))
later-places i k (false ∷ bs) h = later-places i (suc k) bs (omega (arith, h))

pub places-once : (k : ℕ) (bs : List Bool) → has_twice (places k bs) ≡ false
places-once k [] = refl
places-once k (true ∷ bs) = rw (later-places k (suc k) bs (omega arith)) (places-once (suc k) bs)
places-once k (false ∷ bs) = places-once (suc k) bs

-- the marked parts are marked, where those before are done
marked-places : (done bs : List Bool) → marked (done ++ replicate (length bs) false) (places (length done) bs) ≡ done ++ bs
marked-places done [] = refl
marked-places done (b ∷ bs) = by_mark b (marked-places (done ++ b ∷ []) bs)
  where
    next : (b : Bool) → marked ((done ++ b ∷ []) ++ replicate (length bs) false) (places (length (done ++ b ∷ [])) bs) ≡ (done ++ b ∷ []) ++ bs
        → marked (done ++ b ∷ replicate (length bs) false) (places (suc (length done)) bs) ≡ done ++ b ∷ bs
    next b more =
        let size : suc (length done) ≡ length (done ++ b ∷ []) = omega (arith, length-append done (b ∷ [])) in
        ap (λ k. marked (done ++ b ∷ replicate (length bs) false) (places k bs)) size
        ∙ ap (λ all. marked all (places (length (done ++ b ∷ [])) bs)) (sym (append_assoc done (b ∷ []) (replicate (length bs) false)))
        ∙ more ∙ append_assoc done (b ∷ []) bs

    by_mark : (b : Bool) → marked ((done ++ b ∷ []) ++ replicate (length bs) false) (places (length (done ++ b ∷ [])) bs) ≡ (done ++ b ∷ []) ++ bs
        → marked (done ++ false ∷ replicate (length bs) false) (cond b (length done ∷ []) [] ++ places (suc (length done)) bs) ≡ done ++ b ∷ bs
    by_mark true more =
        ap (λ all. marked all (places (suc (length done)) bs)) (set-append_seam done false (replicate (length bs) false) true) ∙ next true more
    by_mark false more = next false more

pub marked-all : (bs : List Bool) → marked (replicate (length bs) false) (places 0 bs) ≡ bs
marked-all bs = marked-places [] bs
