-- The way back over the trail from a conflict.
use Rattle.std.proofs.Common.{◌≡◌, ◌⊎◌, inl, inr, ℕ, ◌+◌, ◌<◌, ◌^◌, ℤ, pos, Bool, true, false, List, [], ◌∷◌, ◌++◌, take, length, get_or, refl, sym, subst, arith, Some}
use Rattle.std.specs.Prelude.{reverse}
use Rattle.std.specs.List.{All}
use Rattle.std.proofs.lemmas.List.{reverse-append}
use Rattle.std.proofs.lemmas.List.Elements.{All-push, All-head, All-tail}
use Rattle.jd_logic.specs.Derivation.{clause_of}
use Rattle.jd_propagate.specs.declared.reason.Reason.{Reason}
use Rattle.jd_propagate.specs.declared.reason.Reason.TheVariants as reason
use Rattle.jd_propagate.specs.Quiet.{IsIn, IsWithin, HasNoOpposites}
use Rattle.jd_propagate.specs.Levels.{negated}
use Rattle.jd_propagate.specs.Reasons.{IsReason, reason_at}
use Rattle.jd_propagate.specs.Trails.{key_of}
use Rattle.jd_propagate.proofs.Explained.{leads-weaker}
use Rattle.jd_propagate.proofs.Members.{false_is_not_true, has-here, has-there, has-append_left, has-append_right, has-append_cases, has-cases, has-push_cases}
use Rattle.jd_propagate.proofs.Watching.{has-at}
use Rattle.jd_prover.specs.declared.solver.Solver.{Solver}
use Rattle.jd_prover.specs.Solving.{store_of, IsExplained, IsNeeded, IsRight}
use Rattle.jd_prover.proofs.Hinting.{explained-done, explained-line, needed-before}
use Rattle.jd_prover.proofs.Logged.{all-many, leads-right}
use Rattle.jd_prover.proofs.Stored.{stored-at, reason-weaker, same_clauses}
use Rattle.jd_learn.specs.Learning.{known, IsLearning}

-- the clauses by their ids
pub stored-known : (clauses : List (List ℤ)) (s : Solver) (k : ℕ) → k < length (known clauses s) → clause_of (k + 1) (store_of clauses s.lines.items) ≡ Some (get_or (known clauses s) k [])
stored-known clauses s k lt = stored-at (known clauses s) 1 k (k + 1) (omega arith) lt

-- a literal that is kept
pub explained-kept : (store : List (ℕ × List ℤ)) (trail kept : List ℤ) (marks : List Bool) (steps : List ℤ) (at : ℕ) → at < length trail
    → IsExplained store trail kept marks steps (at + 1) → IsExplained store trail (kept ++ get_or trail at (pos 0) ∷ []) marks steps at
explained-kept store trail kept marks steps at lt e = record {
  leads = leads-weaker store trail (IsNeeded marks (kept ++ get_or trail at (pos 0) ∷ []) trail at) (IsNeeded marks kept trail (at + 1)) (reverse steps) (λ m k. by m (needed-before marks kept trail at m lt k)) e.leads;
  hints = e.hints;
}
  where
    by : (m : ℤ) → IsNeeded marks kept trail at m ⊎ ((get_or trail at (pos 0) ≡ m) × (get_or marks (key_of m) false ≡ true)) → IsNeeded marks (kept ++ get_or trail at (pos 0) ∷ []) trail at m
    by m (inl (inl a)) = inl a
    by m (inl (inr b)) = inr (has-append_left kept (get_or trail at (pos 0) ∷ []) m b)
    by m (inr (e, mark)) =
        let l = get_or trail at (pos 0) in
        let P : ℤ → Type 0 = λ z. IsIn (kept ++ get_or trail at (pos 0) ∷ []) z in
        inr (subst P e (has-append_right kept (l ∷ []) l (has-here l [])))

-- a literal more that is true
pub kept-true : (trail kept : List ℤ) (at : ℕ) → at < length trail → IsWithin kept trail → IsWithin (kept ++ get_or trail at (pos 0) ∷ []) trail
kept-true trail kept at lt w = λ m is. elim (has-push_cases kept (get_or trail at (pos 0)) m is) [
  | inl e ↦ w m e
  | inr e ↦ (let P : ℤ → Type 0 = λ z. IsIn trail z in subst P e (has-at trail at (pos 0) lt))
]

-- the same literals in the other order
pub has-reverse : (xs : List ℤ) (m : ℤ) → IsIn xs m → IsIn (reverse xs) m
has-reverse [] m is = is
has-reverse (x ∷ xs) m is = (let P : List ℤ → Type 0 = λ ys. IsIn ys m in subst P (sym (reverse-append (x ∷ []) xs)) (by (has-cases x xs m is) (has-reverse xs m)))
  where
    by : (x ≡ m) ⊎ IsIn xs m → (IsIn xs m → IsIn (reverse xs) m) → IsIn (reverse xs ++ x ∷ []) m
    by (inl e) rest = (let P : ℤ → Type 0 = λ z. IsIn (reverse xs ++ x ∷ []) z in subst P e (has-append_right (reverse xs) (x ∷ []) x (has-here x [])))
    by (inr h) rest = has-append_left (reverse xs) (x ∷ []) m (rest h)

pub has-reversed : (xs : List ℤ) (m : ℤ) → IsIn (reverse xs) m → IsIn xs m
has-reversed [] m is = is
has-reversed (x ∷ xs) m is = by (has-append_cases (reverse xs) (x ∷ []) m (let P : List ℤ → Type 0 = λ ys. IsIn ys m in subst P (reverse-append (x ∷ []) xs) is)) (has-reversed xs m)
  where
    by : IsIn (reverse xs) m ⊎ IsIn (x ∷ []) m → (IsIn (reverse xs) m → IsIn xs m) → IsIn (x ∷ xs) m
    by (inl e) rest = has-there x xs m (rest e)
    by (inr h) rest = elim (has-cases x [] m h) [
      | inl e ↦ (let P : ℤ → Type 0 = λ z. IsIn (x ∷ xs) z in subst P e (has-here x xs))
      | inr e ↦ absurd (false_is_not_true false refl e)
    ]

-- what holds of all holds of them in the other order
pub all-reversed : (P : ℤ → Type 0) (xs : List ℤ) → All P xs → All P (reverse xs)
all-reversed P [] all = all
all-reversed P (x ∷ xs) all =
    let A : List ℤ → Type 0 = λ ys. All P ys in
    subst A (sym (reverse-append (x ∷ []) xs)) (All-push P (reverse xs) x (all-reversed P xs (All-tail P x xs all)) (All-head P x xs all))

-- once no literal is left, the kept ones lead to the conflict
pub taught-right : (clauses : List (List ℤ)) (s : Solver) (kept : List ℤ) (marks : List Bool) (steps : List ℤ) → IsWithin kept s.trail
    → IsExplained (store_of clauses s.lines.items) s.trail kept marks steps 0 → IsRight clauses s.lines.items (negated (reverse kept)) (reverse steps)
taught-right clauses s kept marks steps w e =
    let store = store_of clauses s.lines.items in
    leads-right store s.trail (reverse kept) (reverse steps) (λ m is. w m (has-reversed kept m is))
    (leads-weaker store s.trail (λ l. IsIn (reverse kept) l) (λ l. IsIn kept l) (reverse steps) (λ m k. has-reverse kept m k) (explained-done store marks kept s.trail (reverse steps) e.leads))

-- why the literal at a place is true
pub reason-at : (clauses : List (List ℤ)) (s : Solver) (at : ℕ) (r : Reason) → IsLearning clauses s → at < length s.trail → reason_at s.reasons.items at ≡ r
    → IsReason s.long (store_of clauses s.lines.items) s.trail [] (take at s.trail) (get_or s.trail at (pos 0)) r
reason-at clauses s at r h lt e =
    let P : Reason → Type 0 = λ q. IsReason s.long (store_of clauses s.lines.items) s.trail [] (take at s.trail) (get_or s.trail at (pos 0)) q in
    subst P e (h.reasons.each at lt)

-- a watched clause's id is small
pub origin-small : (clauses : List (List ℤ)) (s : Solver) (c : ℕ) → IsLearning clauses s → length clauses + length s.lines.items < 2 ^ 61 → c < length s.long
    → (c < length s.origins.items) × (get_or s.origins.items c 0 < 2 ^ 61) × (length (known clauses s) < 2 ^ 61)
origin-small clauses s c h small lt =
    let m = all-many clauses s.lines.items h.lines in
    let w = h.origins.within c lt in
    let a = h.origins.as_many in
    (omega arith, omega arith, omega arith)

-- a literal that a clause of one literal gives
pub analysed-unit : (clauses : List (List ℤ)) (s : Solver) (kept : List ℤ) (marks : List Bool) (steps : List ℤ) (at id : ℕ) → HasNoOpposites s.trail → at < length s.trail
    → IsReason s.long (store_of clauses s.lines.items) s.trail [] (take at s.trail) (get_or s.trail at (pos 0)) (reason.Line id)
    → IsExplained (store_of clauses s.lines.items) s.trail kept marks steps (at + 1) → IsExplained (store_of clauses s.lines.items) s.trail kept marks (steps ++ pos id ∷ []) at
analysed-unit clauses s kept marks steps at id opposites lt r e =
    let store = store_of clauses s.lines.items in
    explained-line s.long store s.trail kept s.trail marks steps at id opposites lt
    (reason-weaker s.long s.long store store s.trail s.trail [] kept (take at s.trail) (get_or s.trail at (pos 0)) (reason.Line id) (same_clauses s.long) (λ i c is. is) (λ m in' d. d)
    (λ m in' d. absurd (false_is_not_true false refl d)) r) e
