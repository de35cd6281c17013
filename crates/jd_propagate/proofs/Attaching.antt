-- A clause more among those that are watched.
use Rattle.std.proofs.Common.{◌≡◌, ◌≢◌, ◌⊎◌, inl, inr, ℕ, zero, suc, ◌+◌, ◌<◌, ◌≤◌, ℤ, pos, List, [], ◌∷◌, ◌++◌, length, get_or, refl, sym, subst, arith}
use Rattle.std.specs.Prelude.{Vec}
use Rattle.std.specs.List.{Contains}
use Rattle.std.specs.declared.alloc.Global.{Global}
use Rattle.std.proofs.lemmas.Bool.{cases_eq, cases_lt}
use Rattle.std.proofs.lemmas.List.{get_or_append_left, get_or_push, length_push}
use Rattle.std.proofs.lemmas.List.Elements.{Contains-append_left, Contains-push}
use Rattle.jd_propagate.specs.Quiet.{IsIn}
use Rattle.jd_propagate.specs.Trails.{key_of}
use Rattle.jd_propagate.specs.Lists.{Lists, list_at}
use Rattle.jd_propagate.specs.Watched.{IsPair, IsSettled}
use Rattle.jd_propagate.specs.Passing.{literal_at, clause_of, AreWatched, AreSettled}

-- an empty list more
pub list_at-more : (vs : Lists) (v : Vec ℕ Global) (k : ℕ) → v.items ≡ [] → list_at (vs ++ v ∷ []) k ≡ list_at vs k
list_at-more [] v zero e = e
list_at-more [] v (suc k) e = refl
list_at-more (x ∷ xs) v zero e = refl
list_at-more (x ∷ xs) v (suc k) e = list_at-more xs v k e

-- what holds of the new clause and of the old ones holds of all
pub each_more : (P : ℕ → Type 0) (n c : ℕ) → ((d : ℕ) → d < n → P d) → P n → c < n + 1 → P c
each_more P n c old new lt = by (cases_lt c n)
  where
    by : (c < n) ⊎ (n ≤ c) → P c
    by (inl h) = old c h
    by (inr h) = (let e : n ≡ c = omega arith in subst P e new)

-- lists that keep what they had, and have the new clause at two keys
pub record IsAttached (old new : Lists) (a b at : ℕ) : Type 0 where
  pub keeps : (k d : ℕ) → Contains (list_at old k) d → Contains (list_at new k) d
  pub small : (k i n : ℕ) → ((j : ℕ) → j < length (list_at old k) → get_or (list_at old k) j 0 < n) → at < n → i < length (list_at new k) → get_or (list_at new k) i 0 < n
  pub longer : length old ≤ length new
  pub first : Contains (list_at new a) at
  pub second : Contains (list_at new b) at

added-keeps : (old new : Lists) (key at : ℕ) → list_at new key ≡ list_at old key ++ at ∷ [] → ((k : ℕ) → k ≢ key → list_at new k ≡ list_at old k)
    → (k d : ℕ) → Contains (list_at old k) d → Contains (list_at new k) d
added-keeps old new key at here others k d has = by (cases_eq k key)
  where
    by : (k ≡ key) ⊎ (k ≢ key) → Contains (list_at new k) d
    by (inl e) =
        let P : List ℕ → Type 0 = λ xs. Contains xs d in
        let Q : ℕ → Type 0 = λ j. Contains (list_at old j) d in
        let R : ℕ → Type 0 = λ j. Contains (list_at new j) d in
        subst R (sym e) (subst P (sym here) (Contains-append_left (list_at old key) (at ∷ []) d (subst Q e has)))
    by (inr n) = (let P : List ℕ → Type 0 = λ xs. Contains xs d in subst P (sym (others k n)) has)

added-small : (old new : Lists) (key at : ℕ) → list_at new key ≡ list_at old key ++ at ∷ [] → ((k : ℕ) → k ≢ key → list_at new k ≡ list_at old k)
    → (k n : ℕ) → ((j : ℕ) → j < length (list_at old k) → get_or (list_at old k) j 0 < n) → at < n → (i : ℕ) → i < length (list_at new k) → get_or (list_at new k) i 0 < n
added-small old new key at here others k n all lt = by (cases_eq k key)
  where
    All : List ℕ → Type 0
    All xs = (i : ℕ) → i < length xs → get_or xs i 0 < n

    pushed : (xs : List ℕ) → ((i : ℕ) → i < length xs → get_or xs i 0 < n) → (i : ℕ) → i < length (xs ++ at ∷ []) → get_or (xs ++ at ∷ []) i 0 < n
    pushed xs old' i below = elim (cases_lt i (length xs)) [
      | inl h ↦ (let P : ℕ → Type 0 = λ v. v < n in subst P (sym (get_or_append_left xs (at ∷ []) 0 i h)) (old' i h))
      | inr h ↦ (let e : length xs ≡ i = omega (arith, length_push xs at) in let P : ℕ → Type 0 = λ v. v < n in subst P (sym (get_or_push xs at 0 i e)) lt)
    ]

    by : (k ≡ key) ⊎ (k ≢ key) → (i : ℕ) → i < length (list_at new k) → get_or (list_at new k) i 0 < n
    by (inl e) =
        let P : List ℕ → Type 0 = λ xs. (i : ℕ) → i < length xs → get_or xs i 0 < n in
        let Q : ℕ → Type 0 = λ j. (i : ℕ) → i < length (list_at old j) → get_or (list_at old j) i 0 < n in
        let R : ℕ → Type 0 = λ j. (i : ℕ) → i < length (list_at new j) → get_or (list_at new j) i 0 < n in
        subst R (sym e) (subst P (sym here) (pushed (list_at old key) (subst Q e all)))
    by (inr m) = (let P : List ℕ → Type 0 = λ xs. (i : ℕ) → i < length xs → get_or xs i 0 < n in subst P (sym (others k m)) all)

pub attached : (old room mid new : Lists) (a b at : ℕ) → ((k : ℕ) → list_at room k ≡ list_at old k) → length old ≤ length room
    → list_at mid a ≡ list_at room a ++ at ∷ [] → ((k : ℕ) → k ≢ a → list_at mid k ≡ list_at room k) → length mid ≡ length room
    → list_at new b ≡ list_at mid b ++ at ∷ [] → ((k : ℕ) → k ≢ b → list_at new k ≡ list_at mid k) → length new ≡ length mid
    → IsAttached old new a b at
attached old room mid new a b at same longer here others many here' others' many' = record {
  keeps = λ k d h. added-keeps mid new b at here' others' k d (added-keeps room mid a at here others k d (let P : List ℕ → Type 0 = λ xs. Contains xs d in subst P (sym (same k)) h));
  small = λ k i n all lt. added-small mid new b at here' others' k n
      (added-small room mid a at here others k n (let P : List ℕ → Type 0 = λ xs. (j : ℕ) → j < length xs → get_or xs j 0 < n in subst P (sym (same k)) all) lt) lt i;
  longer = omega arith;
  first = added-keeps mid new b at here' others' a at (let P : List ℕ → Type 0 = λ xs. Contains xs at in subst P (sym here) (Contains-push (list_at room a) at));
  second = (let P : List ℕ → Type 0 = λ xs. Contains xs at in subst P (sym here') (Contains-push (list_at mid b) at));
}

pub watched-more : (clauses : List (List ℤ)) (fs ss : List ℤ) (old new : Lists) (clause : List ℤ) (a b : ℤ) → AreWatched clauses fs ss old → IsPair clause a b
    → IsAttached old new (key_of a) (key_of b) (length clauses) → ((l : ℤ) → IsIn clause l → key_of l < length new)
    → AreWatched (clauses ++ clause ∷ []) (fs ++ a ∷ []) (ss ++ b ∷ []) new
watched-more clauses fs ss old new clause a b w pair at room = record {
  firsts_many = (let e = w.firsts_many in omega (arith, e, length_push fs a, length_push clauses clause));
  seconds_many = (let e = w.seconds_many in omega (arith, e, length_push ss b, length_push clauses clause));
  pairs = λ c lt. each_more (λ d. IsPair (clause_of cs d) (literal_at gs d) (literal_at ts d)) (length clauses) c
      (λ d h. (let P : ℤ → Type 0 = λ z. IsPair (clause_of cs d) z (literal_at ts d) in let Q : ℤ → Type 0 = λ z. IsPair (clause_of cs d) (literal_at fs d) z in
      let R : List ℤ → Type 0 = λ xs. IsPair xs (literal_at fs d) (literal_at ss d) in subst P (first_old d h) (subst Q (second_old d h) (subst R (clause_old d h) (w.pairs d h)))))
      (let P : ℤ → Type 0 = λ z. IsPair (clause_of cs (length clauses)) z (literal_at ts (length clauses)) in let Q : ℤ → Type 0 = λ z. IsPair (clause_of cs (length clauses)) a z in
      let R : List ℤ → Type 0 = λ xs. IsPair xs a b in subst P first_new (subst Q second_new (subst R clause_new pair)))
      (within c lt);
  first_listed = λ c lt. each_more (λ d. Contains (list_at new (key_of (literal_at gs d))) d) (length clauses) c
      (λ d h. (let P : ℤ → Type 0 = λ z. Contains (list_at new (key_of z)) d in subst P (first_old d h) (at.keeps (key_of (literal_at fs d)) d (w.first_listed d h))))
      (let P : ℤ → Type 0 = λ z. Contains (list_at new (key_of z)) (length clauses) in subst P first_new at.first) (within c lt);
  second_listed = λ c lt. each_more (λ d. Contains (list_at new (key_of (literal_at ts d))) d) (length clauses) c
      (λ d h. (let P : ℤ → Type 0 = λ z. Contains (list_at new (key_of z)) d in subst P (second_old d h) (at.keeps (key_of (literal_at ss d)) d (w.second_listed d h))))
      (let P : ℤ → Type 0 = λ z. Contains (list_at new (key_of z)) (length clauses) in subst P second_new at.second) (within c lt);
  clauses_listed = λ k i lt. at.small k i (length cs) (λ j h. (let e = w.clauses_listed k j h in omega (arith, e, length_push clauses clause))) (omega (arith, length_push clauses clause)) lt;
  room = λ c l lt. each_more (λ d. IsIn (clause_of cs d) l → key_of l < length new) (length clauses) c
      (λ d h is. (let P : List ℤ → Type 0 = λ xs. IsIn xs l in let e = w.room d l h (subst P (sym (clause_old d h)) is) in let m = at.longer in omega (arith, e, m)))
      (λ is. (let P : List ℤ → Type 0 = λ xs. IsIn xs l in room l (subst P (sym clause_new) is))) (within c lt);
}
  where
    cs : List (List ℤ)
    cs = clauses ++ clause ∷ []

    gs : List ℤ
    gs = fs ++ a ∷ []

    ts : List ℤ
    ts = ss ++ b ∷ []

    within : (c : ℕ) → c < length (clauses ++ clause ∷ []) → c < length clauses + 1
    within c lt = omega (arith, length_push clauses clause)

    clause_old : (d : ℕ) → d < length clauses → get_or clauses d [] ≡ get_or (clauses ++ clause ∷ []) d []
    clause_old d h = sym (get_or_append_left clauses (clause ∷ []) [] d h)

    first_old : (d : ℕ) → d < length clauses → get_or fs d (pos 0) ≡ get_or (fs ++ a ∷ []) d (pos 0)
    first_old d h = sym (get_or_append_left fs (a ∷ []) (pos 0) d (let e = w.firsts_many in omega arith))

    second_old : (d : ℕ) → d < length clauses → get_or ss d (pos 0) ≡ get_or (ss ++ b ∷ []) d (pos 0)
    second_old d h = sym (get_or_append_left ss (b ∷ []) (pos 0) d (let e = w.seconds_many in omega arith))

    clause_new : clause ≡ get_or (clauses ++ clause ∷ []) (length clauses) []
    clause_new = sym (get_or_push clauses clause [] (length clauses) refl)

    first_new : a ≡ get_or (fs ++ a ∷ []) (length clauses) (pos 0)
    first_new = sym (get_or_push fs a (pos 0) (length clauses) w.firsts_many)

    second_new : b ≡ get_or (ss ++ b ∷ []) (length clauses) (pos 0)
    second_new = sym (get_or_push ss b (pos 0) (length clauses) w.seconds_many)

-- the new clause is settled where its watched literals are
pub settled-more : (clauses : List (List ℤ)) (fs ss : List ℤ) (clause : List ℤ) (a b : ℤ) (trail seen : List ℤ) → length fs ≡ length clauses → length ss ≡ length clauses
    → AreSettled clauses fs ss trail seen → IsSettled seen trail a b → AreSettled (clauses ++ clause ∷ []) (fs ++ a ∷ []) (ss ++ b ∷ []) trail seen
settled-more clauses fs ss clause a b trail seen fm sm old new = λ c lt.
    each_more (λ d. IsSettled seen trail (literal_at (fs ++ a ∷ []) d) (literal_at (ss ++ b ∷ []) d)) (length clauses) c
    (λ d h. (let P : ℤ → Type 0 = λ z. IsSettled seen trail z (literal_at (ss ++ b ∷ []) d) in let Q : ℤ → Type 0 = λ z. IsSettled seen trail (literal_at fs d) z in
    subst P (sym (get_or_append_left fs (a ∷ []) (pos 0) d (omega arith))) (subst Q (sym (get_or_append_left ss (b ∷ []) (pos 0) d (omega arith))) (old d h))))
    (let P : ℤ → Type 0 = λ z. IsSettled seen trail z (literal_at (ss ++ b ∷ []) (length clauses)) in let Q : ℤ → Type 0 = λ z. IsSettled seen trail a z in
    subst P (sym (get_or_push fs a (pos 0) (length clauses) fm)) (subst Q (sym (get_or_push ss b (pos 0) (length clauses) sm)) new))
    (omega (arith, length_push clauses clause))
