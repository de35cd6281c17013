-- The clause of what a conflict taught: its last literal has no value, and the others are false.
use Rattle.std.proofs.Common.{◌≡◌, ◌⊎◌, inl, inr, ℕ, zero, suc, ◌+◌, ◌-◌, ◌<◌, ◌≤◌, ℤ, pos, false, List, [], ◌∷◌, ◌++◌, take, length, get_or, refl, sym, ◌∙◌, ap, subst, arith}
use Rattle.std.specs.Prelude.{neg_ℤ}
use Rattle.std.proofs.Math.IntN.{neg_ℤ-neg_ℤ}
use Rattle.std.proofs.Math.Seq.{take-take}
use Rattle.std.proofs.lemmas.Bool.{cases_lt}
use Rattle.std.proofs.lemmas.List.{get_or_default, take_more}
use Rattle.jd_logic.specs.Literals.{has}
use Rattle.jd_proving.specs.Propagation.{has_value}
use Rattle.jd_propagate.specs.Quiet.{IsIn}
use Rattle.jd_propagate.specs.Levels.{negated}
use Rattle.jd_propagate.specs.Passing.{literal_at}
use Rattle.jd_propagate.specs.Trails.{IsTrail}
use Rattle.jd_propagate.specs.Watched.{IsPair}
use Rattle.jd_propagate.proofs.Extensions.{take-beyond, within-take}
use Rattle.jd_propagate.proofs.Members.{false_is_not_true, not_true, has-push_cases}
use Rattle.jd_propagate.proofs.TrailSteps.{value-left}
use Rattle.jd_propagate.proofs.Watching.{has-at}
use Rattle.jd_prover.specs.declared.solver.Solver.{Solver}
use Rattle.jd_prover.proofs.Backing.{negated-back}
use Rattle.jd_prover.proofs.Cutting.{taken-length, taken-at}
use Rattle.jd_prover.proofs.Deciding.{negation-open}
use Rattle.jd_learn.specs.Learning.{IsLearning}
use Rattle.jd_learn.specs.Teaching.{IsGiving, IsLate}

pub negated-at : (ds : List ℤ) (i : ℕ) → i < length ds → get_or (negated ds) i (pos 0) ≡ neg_ℤ (get_or ds i (pos 0))
negated-at [] i lt = absurd (omega arith)
negated-at (d ∷ ds) zero lt = refl
negated-at (d ∷ ds) (suc i) lt = negated-at ds i (omega arith)

pub negated-many : (ds : List ℤ) → length (negated ds) ≡ length ds
negated-many [] = refl
negated-many (d ∷ ds) = ap suc (negated-many ds)

-- a literal read from the clause
pub read-negated : (kept items : List ℤ) (i k : ℕ) (x : ℤ) → items ≡ negated kept → x ≡ get_or items i x → i ≡ k → k < length kept → x ≡ get_or (negated kept) k (pos 0)
read-negated kept items i k x same is e lt =
    is ∙ ap (λ (xs : List ℤ). get_or xs i x) same ∙ ap (λ (j : ℕ). get_or (negated kept) j x) e ∙ get_or_default (negated kept) k x (pos 0) (let m = negated-many kept in omega arith)

-- a clause of one literal
pub alone : (kept : List ℤ) (l : ℤ) → length kept ≡ 1 → l ≡ get_or (negated kept) 0 (pos 0) → negated kept ≡ l ∷ []
alone [] l e is = absurd (omega arith)
alone (k ∷ []) l e is = ap (λ (x : ℤ). x ∷ []) (sym is)
alone (k ∷ m ∷ ks) l e is = absurd (omega arith)

module _ (trail kept : List ℤ) (giving : IsGiving trail kept) where
  some : 0 < length kept
  some = giving.some

  -- the last literal of the clause has no value
  pub open-last : (l : ℤ) → l ≡ get_or (negated kept) (length kept - 1) (pos 0) → has_value trail l ≡ false
  open-last l e =
      let P : ℤ → Type 0 = λ z. has_value trail z ≡ false in
      subst P (sym (e ∙ negated-at kept (length kept - 1) (omega (arith, some)))) (negation-open trail (literal_at kept (length kept - 1)) giving.open')

  whole : kept ≡ take (length kept - 1) kept ++ literal_at kept (length kept - 1) ∷ []
  whole = sym (take-beyond kept (length kept - 1 + 1) (omega (arith, some))) ∙ take_more kept (length kept - 1) (pos 0) (omega (arith, some))

  -- the others are false
  pub others-false : (l m : ℤ) → l ≡ get_or (negated kept) (length kept - 1) (pos 0) → IsIn (negated kept) m → (m ≡ l) ⊎ IsIn trail (neg_ℤ m)
  others-false l m e is =
      let P : List ℤ → Type 0 = λ xs. IsIn xs (neg_ℤ m) in
      by (has-push_cases (take (length kept - 1) kept) (literal_at kept (length kept - 1)) (neg_ℤ m) (subst P whole (negated-back kept m is)))
    where
      by : IsIn (take (length kept - 1) kept) (neg_ℤ m) ⊎ (literal_at kept (length kept - 1) ≡ neg_ℤ m) → (m ≡ l) ⊎ IsIn trail (neg_ℤ m)
      by (inl a) = inr (giving.earlier (neg_ℤ m) a)
      by (inr f) = inl (sym (neg_ℤ-neg_ℤ m) ∙ ap neg_ℤ (sym f) ∙ sym (e ∙ negated-at kept (length kept - 1) (omega (arith, some))))

  earlier-true : (i : ℕ) → i < length kept - 1 → IsIn trail (literal_at kept i)
  earlier-true i lt =
      let n = length kept - 1 in
      let P : ℤ → Type 0 = λ z. IsIn (take n kept) z in
      let t = taken-length kept n (omega arith) in
      giving.earlier (literal_at kept i) (subst P (taken-at kept n i (pos 0) lt) (has-at (take n kept) i (pos 0) (omega arith)))

  -- the last two literals may be watched
  pub watched-pair : (a b : ℤ) → 1 < length kept → a ≡ get_or (negated kept) (length kept - 1) (pos 0) → b ≡ get_or (negated kept) (length kept - 2) (pos 0) → IsPair (negated kept) a b
  watched-pair a b two ea eb =
      let P : ℤ → Type 0 = λ z. IsIn (negated kept) z in
      let m = negated-many kept in
      record {
        first = subst P (sym ea) (has-at (negated kept) (length kept - 1) (pos 0) (omega arith));
        second = subst P (sym eb) (has-at (negated kept) (length kept - 2) (pos 0) (omega arith));
        apart = λ e. apart e;
      }
    where
      apart : a ≡ b → ⊥
      apart e =
          let u = literal_at kept (length kept - 1) in
          let w = literal_at kept (length kept - 2) in
          let f : u ≡ w = sym (neg_ℤ-neg_ℤ u) ∙ ap neg_ℤ (sym (negated-at kept (length kept - 1) (omega arith)) ∙ sym ea ∙ e ∙ eb ∙ negated-at kept (length kept - 2) (omega arith)) ∙ neg_ℤ-neg_ℤ w in
          let I : ℤ → Type 0 = λ z. IsIn trail z in
          false_is_not_true (has trail u) (value-left trail u giving.open') (subst I (sym f) (earlier-true (length kept - 2) (omega arith)))

-- a literal that became true after the last decision was not true before any
pub late-before : (clauses : List (List ℤ)) (s : Solver) (w b : ℤ) (place : ℕ) → IsLearning clauses s → IsTrail s.trail → IsLate s w place → neg_ℤ b ≡ w
    → (j : ℕ) → j < length s.limits.items → has (take (get_or s.limits.items j 0) s.trail) (neg_ℤ b) ≡ false
late-before clauses s w b place h t late e j lt = not_true (has (take (get_or s.limits.items j 0) s.trail) (neg_ℤ b)) (λ is. absurd (no is))
  where
    below : get_or s.limits.items j 0 ≤ place
    below = by (cases_lt j (length s.limits.items - 1))
      where
        by : (j < length s.limits.items - 1) ⊎ (length s.limits.items - 1 ≤ j) → get_or s.limits.items j 0 ≤ place
        by (inl a) = (let o = h.order j (length s.limits.items - 1) a (omega arith) in let p = late.after (omega arith) in omega arith)
        by (inr a) = (let q : j ≡ length s.limits.items - 1 = omega arith in let p = late.after (omega arith) in let P : ℕ → Type 0 = λ k. get_or s.limits.items k 0 ≤ place in subst P (sym q) p)

    no : IsIn (take (get_or s.limits.items j 0) s.trail) (neg_ℤ b) → ⊥
    no is =
        let m = get_or s.limits.items j 0 in
        let xs = take place s.trail in
        let P : List ℤ → Type 0 = λ ys. IsIn ys (neg_ℤ b) in
        let Q : ℤ → Type 0 = λ z. IsIn xs z in
        let in' : IsIn xs (neg_ℤ b) = within-take xs m (neg_ℤ b) (subst P (sym (take-take m place s.trail below)) is) in
        let z = literal_at s.trail place in
        false_is_not_true (has xs z) (value-left xs z (t.fresh place late.within)) (subst Q (e ∙ sym late.same) in')
