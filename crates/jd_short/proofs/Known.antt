-- Starts that tell routines apart: one more of a list was looked at.
use Rattle.std.proofs.Common.{◌≡◌, ℕ, ◌+◌, ◌<◌, Bool, true, false, not, List, [], ◌∷◌, ◌++◌, length, take, get_or, refl, sym, subst}
use Rattle.std.specs.Prelude.{All, ◌&&◌}
use Rattle.std.proofs.lemmas.List.{take_more}
use Rattle.std.proofs.lemmas.List.Elements.{All-nil, All-cons, All-append}
use Rattle.hp_model.specs.State.{Data}
use Rattle.jd_model.specs.Problems.{Problem, allows}
use Rattle.jd_model.specs.Seen.{agree}
use Rattle.jd_books.specs.Outcomes.{IsDifference}
use Rattle.jd_short.specs.Differences.{is_difference}

both : (a b : Bool) → (a && not b) ≡ true → (a ≡ true) × (b ≡ false)
both true true e = absurd (no e)
  where
    no : false ≡ true → ⊥
    no f = cc
both true false e = (refl, refl)
both false b e = absurd (no e)
  where
    no : false ≡ true → ⊥
    no f = cc

pub difference-is : (p : Problem) (s : Data) → is_difference p s ≡ true → IsDifference p s
difference-is p s e = let h = both (allows p s) (agree p s) e in record {
  allowed = h.0;
  differs = h.1;
}

pub one-more-looked-at : {S : Type 0} (P : S → Type 0) (xs : List S) (i : ℕ) (x : S) → i < length xs → x ≡ get_or xs i x → All P (take i xs) → P x → All P (take (i + 1) xs)
one-more-looked-at P xs i x inside is before this =
    subst (All P) (sym (take_more xs i x inside)) (All-append P (take i xs) (get_or xs i x ∷ []) before (All-cons P (get_or xs i x) [] (subst P is this) (All-nil P)))
