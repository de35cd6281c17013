-- Lists of refusals: one more, for the next candidate in order, and two of them joined.
use Rattle.std.proofs.Common.{◌≡◌, ℕ, ◌+◌, ◌<◌, List, [], ◌∷◌, ◌++◌, length, take, drop, map, get_or, sym, ap, ◌∙◌, subst}
use Rattle.std.specs.Prelude.{All}
use Rattle.std.proofs.lemmas.List.{take_more, map-append, take-append-drop}
use Rattle.std.proofs.lemmas.List.Elements.{All-nil, All-cons, All-append}
use Rattle.jd_model.specs.Problems.{Problem}
use Rattle.jd_pieces.specs.declared.places.Candidate.{Candidate}
use Rattle.jd_short.specs.Shortened.{AreRefusedAt, IsRefusal, candidate_of}
use Rattle.jd_short.specs.declared.refusals.Refusal.{Refusal}

pub in-order : (items : List Candidate) (i : ℕ) (old new : List Refusal) (r : Refusal) (d : Candidate) →
    i < length items → map candidate_of old ≡ take i items → new ≡ old ++ r ∷ [] → candidate_of r ≡ get_or items i d →
    map candidate_of new ≡ take (i + 1) items
in-order items i old new r d inside before pushed this =
    ap (map candidate_of) pushed
    ∙ map-append candidate_of old (r ∷ [])
    ∙ ap (λ xs. xs ++ candidate_of r ∷ []) before
    ∙ ap (λ x. take i items ++ x ∷ []) this
    ∙ sym (take_more items i d inside)

pub one-more : (P : Refusal → Type 0) (old new : List Refusal) (r : Refusal) → All P old → new ≡ old ++ r ∷ [] → P r → All P new
one-more P old new r all pushed this = subst (All P) (sym pushed) (All-append P old (r ∷ []) all (All-cons P r [] this (All-nil P)))

-- the candidates before a place, and those from it on
pub all-refused : (p : Problem) (routine : List ℕ) (found : List Candidate) (k : ℕ) (early later all : List Refusal) →
    AreRefusedAt p routine (take k found) early → AreRefusedAt p routine (drop k found) later → all ≡ early ++ later → AreRefusedAt p routine found all
all-refused p routine found k early later all before after joined = record {
  in_order =
      ap (map candidate_of) joined
      ∙ map-append candidate_of early later
      ∙ ap (λ xs. xs ++ map candidate_of later) before.in_order
      ∙ ap (λ xs. take k found ++ xs) after.in_order
      ∙ take-append-drop k found;
  refused = subst (All (IsRefusal p routine)) (sym joined) (All-append (IsRefusal p routine) early later before.refused after.refused);
}
