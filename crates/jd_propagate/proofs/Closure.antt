-- What unit propagation makes true stays within literals beside which every clause is quiet.
use Rattle.std.proofs.Common.{◌≡◌, ◌⊎◌, inl, inr, ℕ, zero, suc, ℤ, Bool, true, false, not, cond, List, [], ◌∷◌, refl, ap, sym, ◌∙◌, subst, length}
use Rattle.std.specs.Prelude.{neg_ℤ}
use Rattle.std.specs.Ordering.{int_eq}
use Rattle.std.specs.List.{list_all}
use Rattle.std.proofs.lemmas.List.Elements.{All-head, All-tail}
use Rattle.jd_logic.specs.declared.Left.{Left}
use Rattle.jd_logic.specs.declared.Left.TheVariants.{Falsified, Unit, Open}
use Rattle.jd_logic.specs.Checking.{is_empty}
use Rattle.jd_logic.specs.Literals.{has, counted, left, left_of, with_literal, with_negations}
use Rattle.jd_proving.specs.Propagation.{with_unit, round, rounds, propagated, has_false, has_opposites, is_consistent, has_value, leaves_open}
use Rattle.jd_propagate.specs.Quiet.{IsIn, IsWithin, HasNoOpposites, IsQuiet, AreQuiet}
use Rattle.jd_propagate.proofs.Members.{false_is_not_true, not_true, or_left, or_right, or_false, and_true, int_eq-same, has-here, has-there, has-cases, within_with_literal, list_any-none, list_all-at}

-- what is left of a clause
pub left_of-has : (trues clause : List ℤ) (l : ℤ) → IsIn clause l → has trues (neg_ℤ l) ≡ false → IsIn (left_of trues clause) l
left_of-has trues [] l is open' = cc
left_of-has trues (m ∷ ms) l is open' = by (has trues (neg_ℤ m)) refl (has-cases m ms l is) (λ f. left_of-has trues ms l f open')
  where
    by : (b : Bool) → has trues (neg_ℤ m) ≡ b → (m ≡ l) ⊎ IsIn ms l → (IsIn ms l → IsIn (left_of trues ms) l) → IsIn (cond (not b) (m ∷ left_of trues ms) (left_of trues ms)) l
    by true e (inl f) rest = absurd (false_is_not_true (has trues (neg_ℤ l)) open' (ap (λ (z : ℤ). has trues (neg_ℤ z)) (sym f) ∙ e))
    by true e (inr f) rest = rest f
    by false e (inl f) rest = (let P : ℤ → Type 0 = λ z. IsIn (m ∷ left_of trues ms) z in subst P f (has-here m (left_of trues ms)))
    by false e (inr f) rest = has-there m (left_of trues ms) l (rest f)

-- all that are left are the one
pub one-is : (ls : List ℤ) (l m : ℤ) → counted ls ≡ Unit l → IsIn ls m → m ≡ l
one-is [] l m e is = cc
one-is (x ∷ xs) l m e is = by (list_all (λ k. int_eq k x) xs) refl e
  where
    by : (b : Bool) → list_all (λ k. int_eq k x) xs ≡ b → cond b (Unit x) Open ≡ Unit l → m ≡ l
    by true all e = (let f : x ≡ l = cc in elim (has-cases x xs m is) [
      | inl g ↦ sym g ∙ f
      | inr g ↦ int_eq-same m x (list_all-at (λ k. int_eq k x) xs m all g) ∙ f
    ])
    by false all e = cc

pub not_empty : (ls : List ℤ) (l : ℤ) → IsIn ls l → is_empty ls ≡ false
not_empty [] l is = cc
not_empty (x ∷ xs) l is = refl

pub still_open : (xs ys : List ℤ) (l : ℤ) → IsWithin xs ys → has ys (neg_ℤ l) ≡ false → has xs (neg_ℤ l) ≡ false
still_open xs ys l w h = not_true (has xs (neg_ℤ l)) (λ e. false_is_not_true (has ys (neg_ℤ l)) h (w (neg_ℤ l) e))

-- a clause that is quiet beside more literals isn't false beside fewer
pub quiet_not_false : (xs ys clause : List ℤ) → IsWithin xs ys → HasNoOpposites ys → IsQuiet ys clause → is_empty (left_of xs clause) ≡ false
quiet_not_false xs ys clause w h (inl (l, t)) = not_empty (left_of xs clause) l (left_of-has xs clause l t.among (still_open xs ys l w (h l t.is_true)))
quiet_not_false xs ys clause w h (inr (p, o)) = not_empty (left_of xs clause) (p.0) (left_of-has xs clause (p.0) o.first.among (still_open xs ys (p.0) w o.first.not_false))

-- what it gives beside fewer is true beside more
pub quiet_gives : (xs ys clause : List ℤ) (l : ℤ) → IsWithin xs ys → HasNoOpposites ys → IsQuiet ys clause → left xs clause ≡ Unit l → IsIn ys l
quiet_gives xs ys clause l w h (inl (k, t)) e =
    let f = one-is (left_of xs clause) l k e (left_of-has xs clause k t.among (still_open xs ys k w (h k t.is_true))) in
    let P : ℤ → Type 0 = λ z. IsIn ys z in subst P f t.is_true
quiet_gives xs ys clause l w h (inr (p, o)) e =
    let f = one-is (left_of xs clause) l (p.0) e (left_of-has xs clause (p.0) o.first.among (still_open xs ys (p.0) w o.first.not_false)) in
    let g = one-is (left_of xs clause) l (p.1) e (left_of-has xs clause (p.1) o.second.among (still_open xs ys (p.1) w o.second.not_false)) in
    absurd (o.apart (f ∙ sym g))

with_unit-within : (xs ys clause : List ℤ) → IsWithin xs ys → HasNoOpposites ys → IsQuiet ys clause → IsWithin (with_unit xs clause) ys
with_unit-within xs ys clause w h q = by (left xs clause) refl
  where
    by : (left' : Left) → left xs clause ≡ left' → IsWithin (elim left' [ Falsified ↦ xs | Unit l ↦ with_literal xs l | Open ↦ xs ]) ys
    by Falsified e = w
    by (Unit l) e = within_with_literal xs ys l w (quiet_gives xs ys clause l w h q e)
    by Open e = w

round-within : (xs ys : List ℤ) (clauses : List (List ℤ)) → IsWithin xs ys → HasNoOpposites ys → AreQuiet ys clauses → IsWithin (round xs clauses) ys
round-within xs ys [] w h q = w
round-within xs ys (c ∷ cs) w h q =
    let P : List ℤ → Type 0 = λ c. IsQuiet ys c in
    round-within (with_unit xs c) ys cs (with_unit-within xs ys c w h (All-head P c cs q)) h (All-tail P c cs q)

rounds-within : (n : ℕ) (xs ys : List ℤ) (clauses : List (List ℤ)) → IsWithin xs ys → HasNoOpposites ys → AreQuiet ys clauses → IsWithin (rounds n xs clauses) ys
rounds-within zero xs ys clauses w h q = w
rounds-within (suc n) xs ys clauses w h q = rounds-within n (round xs clauses) ys clauses (round-within xs ys clauses w h q) h q

pub propagated-within : (xs ys : List ℤ) (clauses : List (List ℤ)) → IsWithin xs ys → HasNoOpposites ys → AreQuiet ys clauses → IsWithin (propagated xs clauses) ys
propagated-within xs ys clauses w h q = rounds-within (length clauses) xs ys clauses w h q

pub no_opposites : (xs ys : List ℤ) → IsWithin xs ys → HasNoOpposites ys → has_opposites xs ≡ false
no_opposites xs ys w h = list_any-none (λ l. has xs (neg_ℤ l)) xs (λ l is. still_open xs ys l w (h l (w l is)))

pub none_false : (xs ys : List ℤ) (clauses : List (List ℤ)) → IsWithin xs ys → HasNoOpposites ys → AreQuiet ys clauses → has_false xs clauses ≡ false
none_false xs ys [] w h q = refl
none_false xs ys (c ∷ cs) w h q =
    let P : List ℤ → Type 0 = λ c. IsQuiet ys c in
    or_false (is_empty (left_of xs c)) (has_false xs cs) (quiet_not_false xs ys c w h (All-head P c cs q)) (none_false xs ys cs w h (All-tail P c cs q))

pub consistent-within : (xs ys : List ℤ) (clauses : List (List ℤ)) → IsWithin xs ys → HasNoOpposites ys → AreQuiet ys clauses → is_consistent xs clauses ≡ true
consistent-within xs ys clauses w h q =
    and_true (not (has_opposites xs)) (not (has_false xs clauses)) (ap not (no_opposites xs ys w h)) (ap not (none_false xs ys clauses w h q))

-- beside literals that leave a literal open and every clause quiet, propagation leaves it open
pub stays_open : (clauses : List (List ℤ)) (before ys : List ℤ) (l : ℤ) → IsWithin (with_negations [] before) ys → HasNoOpposites ys → AreQuiet ys clauses
    → has_value ys l ≡ false → leaves_open clauses before l ≡ true
stays_open clauses before ys l w h q open' =
    let xs = propagated (with_negations [] before) clauses in
    let v = propagated-within (with_negations [] before) ys clauses w h q in
    and_true (is_consistent xs clauses) (not (has_value xs l)) (consistent-within xs ys clauses v h q) (ap not (no_value xs v))
  where
    no_value : (xs : List ℤ) → IsWithin xs ys → has_value xs l ≡ false
    no_value xs v = or_false (has xs l) (has xs (neg_ℤ l))
        (not_true (has xs l) (λ e. false_is_not_true (has_value ys l) open' (or_left (has ys l) (has ys (neg_ℤ l)) (v l e))))
        (not_true (has xs (neg_ℤ l)) (λ e. false_is_not_true (has_value ys l) open' (or_right (has ys l) (has ys (neg_ℤ l)) (v (neg_ℤ l) e))))
