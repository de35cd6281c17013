-- Hints, found from the trail's end backwards, with marks for what is needed.
use Rattle.std.proofs.Common.{◌≡◌, ◌⊎◌, inl, inr, ℕ, ◌+◌, ◌<◌, ◌^◌, ℤ, pos, Bool, true, false, List, [], ◌∷◌, ◌++◌, take, length, get_or, refl, sym, ◌∙◌, subst, arith, Some}
use Rattle.std.specs.Prelude.{neg_ℤ}
use Rattle.std.proofs.lemmas.List.{take_more}
use Rattle.jd_logic.specs.Derivation.{clause_of}
use Rattle.jd_propagate.specs.Quiet.{IsIn, HasNoOpposites}
use Rattle.jd_propagate.specs.Hints.{IsFalseBy, LeadsToConflict}
use Rattle.jd_propagate.specs.Trails.{key_of}
use Rattle.jd_propagate.proofs.Members.{false_is_not_true, has-push_cases}
use Rattle.jd_propagate.proofs.Watching.{has-at}
use Rattle.jd_propagate.proofs.Explained.{conflict-leads, cause-leads, leads-weaker}
use Rattle.jd_propagate.proofs.Extensions.{take-beyond}
use Rattle.std.proofs.lemmas.List.{reverse-append}
use Rattle.std.proofs.lemmas.List.Elements.{All-push}
use Rattle.std.specs.Prelude.{reverse}
use Rattle.jd_logic.specs.Literals.{IsHint, AreHints}
use Rattle.jd_propagate.specs.declared.reason.Reason.TheVariants.{Clause, Line}
use Rattle.jd_propagate.specs.Reasons.{IsReason}
use Rattle.jd_prover.specs.Solving.{IsNeeded, IsExplained, AreOrigins}

-- what was needed is needed still, or is the literal at the place
pub needed-before : (marks : List Bool) (decisions trail : List ℤ) (at : ℕ) (m : ℤ) → at < length trail → IsNeeded marks decisions trail (at + 1) m
    → IsNeeded marks decisions trail at m ⊎ ((get_or trail at (pos 0) ≡ m) × (get_or marks (key_of m) false ≡ true))
needed-before marks decisions trail at m lt (inr d) = inl (inr d)
needed-before marks decisions trail at m lt (inl (mark, in')) =
    let P : List ℤ → Type 0 = λ xs. IsIn xs m in
    elim (has-push_cases (take at trail) (get_or trail at (pos 0)) m (subst P (take_more trail at (pos 0) lt) in')) [
      | inl h ↦ inl (inl (mark, h))
      | inr e ↦ inr (e, mark)
    ]

-- a literal that isn't marked
pub explained-unmarked : (store : List (ℕ × List ℤ)) (marks : List Bool) (decisions trail hints : List ℤ) (at : ℕ) (l : ℤ) → at < length trail → l ≡ get_or trail at (pos 0)
    → get_or marks (key_of l) false ≡ false → LeadsToConflict store trail (IsNeeded marks decisions trail (at + 1)) hints → LeadsToConflict store trail (IsNeeded marks decisions trail at) hints
explained-unmarked store marks decisions trail hints at l lt is none leads =
    leads-weaker store trail (IsNeeded marks decisions trail at) (IsNeeded marks decisions trail (at + 1)) hints (λ m k. by m (needed-before marks decisions trail at m lt k)) leads
  where
    by : (m : ℤ) → IsNeeded marks decisions trail at m ⊎ ((get_or trail at (pos 0) ≡ m) × (get_or marks (key_of m) false ≡ true)) → IsNeeded marks decisions trail at m
    by m (inl h) = h
    by m (inr (e, mark)) =
        let P : ℤ → Type 0 = λ z. get_or marks (key_of z) false ≡ true in
        absurd (false_is_not_true (get_or marks (key_of l) false) none (subst P (sym (is ∙ e)) mark))

-- a decision
pub explained-decided : (store : List (ℕ × List ℤ)) (marks : List Bool) (decisions trail hints : List ℤ) (at : ℕ) → at < length trail → IsIn decisions (get_or trail at (pos 0))
    → LeadsToConflict store trail (IsNeeded marks decisions trail (at + 1)) hints → LeadsToConflict store trail (IsNeeded marks decisions trail at) hints
explained-decided store marks decisions trail hints at lt decided leads =
    leads-weaker store trail (IsNeeded marks decisions trail at) (IsNeeded marks decisions trail (at + 1)) hints (λ m k. by m (needed-before marks decisions trail at m lt k)) leads
  where
    by : (m : ℤ) → IsNeeded marks decisions trail at m ⊎ ((get_or trail at (pos 0) ≡ m) × (get_or marks (key_of m) false ≡ true)) → IsNeeded marks decisions trail at m
    by m (inl h) = h
    by m (inr (e, mark)) = (let P : ℤ → Type 0 = λ z. IsIn decisions z in inr (subst P e decided))

-- a literal that a stored clause gives
pub explained-by : (store : List (ℕ × List ℤ)) (marks next : List Bool) (decisions trail hints : List ℤ) (at id : ℕ) (clause : List ℤ) → HasNoOpposites trail → at < length trail
    → ((k : ℕ) → get_or marks k false ≡ true → get_or next k false ≡ true)
    → clause_of id store ≡ Some clause → IsIn clause (get_or trail at (pos 0)) → ((m : ℤ) → IsIn clause m → (m ≡ get_or trail at (pos 0)) ⊎ IsNeeded next decisions trail at (neg_ℤ m))
    → LeadsToConflict store trail (IsNeeded marks decisions trail (at + 1)) hints → LeadsToConflict store trail (IsNeeded next decisions trail at) (pos id ∷ hints)
explained-by store marks next decisions trail hints at id clause h lt kept stored among others leads =
    cause-leads store trail (IsNeeded next decisions trail at) (IsNeeded marks decisions trail (at + 1)) id clause hints (get_or trail at (pos 0)) h (has-at trail at (pos 0) lt) stored among others
    (λ m k. by m (needed-before marks decisions trail at m lt k)) leads
  where
    by : (m : ℤ) → IsNeeded marks decisions trail at m ⊎ ((get_or trail at (pos 0) ≡ m) × (get_or marks (key_of m) false ≡ true)) → IsNeeded next decisions trail at m ⊎ (m ≡ get_or trail at (pos 0))
    by m (inl (inl (mark, in'))) = inl (inl (kept (key_of m) mark, in'))
    by m (inl (inr d)) = inl (inr d)
    by m (inr (e, mark)) = inr (sym e)

pub explained-begun : (store : List (ℕ × List ℤ)) (marks : List Bool) (decisions trail : List ℤ) (id : ℕ) (clause : List ℤ) → clause_of id store ≡ Some clause → IsFalseBy trail clause
    → ((l : ℤ) → IsIn clause l → get_or marks (key_of (neg_ℤ l)) false ≡ true) → LeadsToConflict store trail (IsNeeded marks decisions trail (length trail)) (pos id ∷ [])
explained-begun store marks decisions trail id clause stored false' marked =
    conflict-leads store trail (IsNeeded marks decisions trail (length trail)) id clause [] stored
    (λ l is. inl (marked l is, (let P : List ℤ → Type 0 = λ xs. IsIn xs (neg_ℤ l) in subst P (sym (take-beyond trail (length trail) (omega arith))) (false' l is))))

pub explained-done : (store : List (ℕ × List ℤ)) (marks : List Bool) (decisions trail hints : List ℤ) → LeadsToConflict store trail (IsNeeded marks decisions trail 0) hints
    → LeadsToConflict store trail (λ l. IsIn decisions l) hints
explained-done store marks decisions trail hints leads =
    leads-weaker store trail (λ l. IsIn decisions l) (IsNeeded marks decisions trail 0) hints (λ m k. by m k) leads
  where
    none : (xs : List ℤ) (m : ℤ) → IsIn (take 0 xs) m → ⊥
    none [] m e = false_is_not_true false refl e
    none (x ∷ xs) m e = false_is_not_true false refl e

    by : (m : ℤ) → IsNeeded marks decisions trail 0 m → IsIn decisions m
    by m (inl (mark, in')) = absurd (none trail m in')
    by m (inr d) = d

pub hint_fits : (id : ℕ) → 0 < id → id < 2 ^ 62 → IsHint (pos id)
hint_fits id z h = record { not_zero = z; bounded = omega arith }

pub hints-more : (steps : List ℤ) (id : ℕ) → AreHints steps → 0 < id → id < 2 ^ 62 → AreHints (steps ++ pos id ∷ [])
hints-more steps id all z h = All-push IsHint steps (pos id) all (hint_fits id z h)

reversed : (steps : List ℤ) (id : ℕ) → (pos id ∷ reverse steps) ≡ reverse (steps ++ pos id ∷ [])
reversed steps id = sym (reverse-append steps (pos id ∷ []))

-- a literal that a stored clause gives beside kept ones alone
pub explained-line : (long : List (List ℤ)) (store : List (ℕ × List ℤ)) (decisions kept trail : List ℤ) (marks : List Bool) (steps : List ℤ) (at id : ℕ) → HasNoOpposites trail → at < length trail
    → IsReason long store decisions kept (take at trail) (get_or trail at (pos 0)) (Line id)
    → IsExplained store trail kept marks steps (at + 1) → IsExplained store trail kept marks (steps ++ pos id ∷ []) at
explained-line long store decisions kept trail marks steps at id h lt (clause, shown) e =
    let P : List ℤ → Type 0 = λ xs. LeadsToConflict store trail (IsNeeded marks kept trail at) xs in
    record {
      leads = subst P (reversed steps id) (explained-by store marks marks kept trail (reverse steps) at id clause h lt (λ k m. m) shown.stored shown.among (λ m is. by m (shown.others m is)) e.leads);
      hints = hints-more steps id e.hints shown.not_zero shown.small;
    }
  where
    by : (m : ℤ) → (m ≡ get_or trail at (pos 0)) ⊎ (IsIn (take at trail) (neg_ℤ m) × IsIn kept (neg_ℤ m)) → (m ≡ get_or trail at (pos 0)) ⊎ IsNeeded marks kept trail at (neg_ℤ m)
    by m (inl f) = inl f
    by m (inr (b, d)) = inr (inr d)

-- a literal that a watched clause gives
pub explained-clause : (given long : List (List ℤ)) (origins : List ℕ) (store : List (ℕ × List ℤ)) (decisions assumed kept trail : List ℤ) (marks next : List Bool) (steps : List ℤ) (at c : ℕ)
    → HasNoOpposites trail → at < length trail → length given < 2 ^ 61 → AreOrigins given long origins → ((k : ℕ) → k < length given → clause_of (k + 1) store ≡ Some (get_or given k []))
    → ((k : ℕ) → get_or marks k false ≡ true → get_or next k false ≡ true)
    → ((l : ℤ) → IsIn (get_or long c []) l → get_or next (key_of (neg_ℤ l)) false ≡ true)
    → IsReason long store decisions assumed (take at trail) (get_or trail at (pos 0)) (Clause c)
    → IsExplained store trail kept marks steps (at + 1) → IsExplained store trail kept next (steps ++ pos (get_or origins c 0 + 1) ∷ []) at
explained-clause given long origins store decisions assumed kept trail marks next steps at c h lt small o stored still marked (below, cause) e =
    let k = get_or origins c 0 in
    let w = o.within c below in
    let P : List ℤ → Type 0 = λ xs. LeadsToConflict store trail (IsNeeded next kept trail at) xs in
    let S : List ℤ → Type 0 = λ xs. clause_of (k + 1) store ≡ Some xs in
    record {
      leads = subst P (reversed steps (k + 1)) (explained-by store marks next kept trail (reverse steps) at (k + 1) (get_or long c []) h lt still (subst S (sym (o.same c below)) (stored k w)) cause.among
          (λ m is. by m is (cause.others m is)) e.leads);
      hints = hints-more steps (k + 1) e.hints (omega arith) (omega arith);
    }
  where
    by : (m : ℤ) → IsIn (get_or long c []) m → (m ≡ get_or trail at (pos 0)) ⊎ IsIn (take at trail) (neg_ℤ m) → (m ≡ get_or trail at (pos 0)) ⊎ IsNeeded next kept trail at (neg_ℤ m)
    by m is (inl f) = inl f
    by m is (inr b) = inr (inl (marked m is, b))
