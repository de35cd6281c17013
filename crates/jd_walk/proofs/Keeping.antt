-- Questions that were answered with no, as the walk goes on and back.
use Rattle.std.proofs.Common.{◌≡◌, ℕ, ◌<◌, ◌≤◌, Bool, true, false, List, [], ◌∷◌, ◌++◌, length, take, Option, Some, None, refl, sym, ap, ◌∙◌, subst, arith, length-append, nat_le, cond}
use Rattle.std.proofs.lemmas.Bool.Decides.{nat_tests}
use Rattle.std.proofs.lemmas.List.{take-append-le, take-take}
use Rattle.jd_circuit.specs.declared.literals.Lit.{Lit}
use Rattle.jd_circuit.specs.Net.{Net, Grows}
use Rattle.jd_model.specs.Problems.{Problem}
use Rattle.jd_walk.specs.declared.places.RunEnd.{RunEnd}
use Rattle.jd_walk.specs.declared.places.FirstEnd.{FirstEnd}
use Rattle.jd_walk.specs.declared.places.Saved.{Saved}
use Rattle.jd_walk.specs.Spots.{IsSpot, IsRun, IsAskHere, first_at, net_at, IsSaved}

-- the same place on a path, with its guards, circuit and first end said otherwise
pub same-spot : (p : Problem) (m n : Net) (xs ys : List Bool) (assumed gs hs : List Lit) (f g : Option RunEnd) (s : Saved) → m ≡ n → xs ≡ ys → gs ≡ hs → f ≡ g
    → (IsSpot p m xs assumed gs) × (IsRun p m xs f s.position) × (IsAskHere p m xs s.position s.ask) → (IsSpot p n ys assumed hs) × (IsRun p n ys g s.position) × (IsAskHere p n ys s.position s.ask)
same-spot p m n xs ys assumed gs hs f g s e1 e2 e3 e4 h = (
  subst (λ k. IsSpot p k ys assumed hs) e1 (subst (λ k. IsSpot p m k assumed hs) e2 (subst (λ k. IsSpot p m xs assumed k) e3 h.0)),
  subst (λ k. IsRun p k ys g s.position) e1 (subst (λ k. IsRun p m k g s.position) e2 (subst (λ k. IsRun p m xs k s.position) e4 h.1)),
  subst (λ k. IsAskHere p k ys s.position s.ask) e1 (subst (λ k. IsAskHere p m k s.position s.ask) e2 h.2),
)

-- an answer more
pub saved-pushed : (p : Problem) (net : Net) (path : List Bool) (assumed guards : List Lit) (first : Option FirstEnd) (a : Bool) (g : Lit) (s : Saved) → length guards ≡ length path
    → IsSaved p net path assumed guards first s → IsSaved p net (path ++ a ∷ []) assumed (guards ++ g ∷ []) first s
saved-pushed p net path assumed guards first a g s count h =
    let both = same-spot p (net_at net s.mark.gates) (net_at net s.mark.gates) (take s.at path) (take s.at (path ++ a ∷ [])) assumed (take s.at guards) (take s.at (guards ++ g ∷ [])) (first_at s.at first) (first_at s.at first) s
    refl (sym (take-append-le s.at path (a ∷ []) (omega (arith, h.inside)))) (sym (take-append-le s.at guards (g ∷ []) (omega (arith, h.inside, count)))) refl (h.spot, h.run, h.asked) in
    record { inside = omega (arith, h.inside, length-append path (a ∷ [])); mark = h.mark; spot = both.0; run = both.1; asked = both.2 }

-- more gates
pub saved-grown : (p : Problem) (old new : Net) (path : List Bool) (assumed guards : List Lit) (first : Option FirstEnd) (s : Saved) → Grows old new
    → IsSaved p old path assumed guards first s → IsSaved p new path assumed guards first s
saved-grown p old new path assumed guards first s grows h =
    let gates : take s.mark.gates old.gates ≡ take s.mark.gates new.gates =
    ap (take s.mark.gates) (sym grows.front) ∙ take-take s.mark.gates (length old.gates) new.gates h.mark in
    let nets : net_at old s.mark.gates ≡ net_at new s.mark.gates = rw (gates, grows.inputs) refl in
    let both = same-spot p (net_at old s.mark.gates) (net_at new s.mark.gates) (take s.at path) (take s.at path) assumed (take s.at guards) (take s.at guards) (first_at s.at first) (first_at s.at first) s
    nets refl refl refl (h.spot, h.run, h.asked) in
    record { inside = h.inside; mark = omega (arith, h.mark, grows.more); spot = both.0; run = both.1; asked = both.2 }

-- the first run's end comes after each of them
pub later-end : (k : ℕ) (f : FirstEnd) → k < f.path → first_at k (Some f) ≡ None
later-end k f h = by_test (nat_le f.path k) refl
  where
    by_test : (b : Bool) → nat_le f.path k ≡ b → cond b (Some f.run) None ≡ None
    by_test true e = absurd (let le : f.path ≤ k = grind (arith, nat_tests) in omega (arith, le, h))
    by_test false e = refl

pub saved-over : (p : Problem) (net : Net) (path : List Bool) (assumed guards : List Lit) (f : FirstEnd) (s : Saved) → f.path ≡ length path
    → IsSaved p net path assumed guards None s → IsSaved p net path assumed guards (Some f) s
saved-over p net path assumed guards f s at h = record {
  inside = h.inside;
  mark = h.mark;
  spot = h.spot;
  run = subst (λ o. IsRun p (net_at net s.mark.gates) (take s.at path) o s.position) (sym (later-end s.at f (omega (arith, at, h.inside)))) h.run;
  asked = h.asked;
}
