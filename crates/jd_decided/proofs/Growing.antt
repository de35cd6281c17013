-- Propagation takes no literal back.
use Rattle.std.proofs.Common.{◌≡◌, ℕ, zero, suc, Bool, true, false, cond, ◌||◌, List, [], ◌∷◌, ◌++◌, length, refl, ℤ, neg_ℤ}
use Rattle.std.specs.Ordering.{int_eq}
use Rattle.std.proofs.lemmas.Bool.{false≢true}
use Rattle.std.proofs.lemmas.Bool.Decides.{Decides-int_eq}
use Rattle.jd_logic.specs.declared.Left.{Left}
use Rattle.jd_logic.specs.declared.Left.TheVariants.{Falsified, Unit as One, Open}
use Rattle.jd_logic.specs.Literals.{has, with_literal, left}
use Rattle.jd_proving.specs.Propagation.{with_unit, round, rounds, propagated, has_value}

-- all literals of one list are in another
abbrev pub Within : List ℤ → List ℤ → Type 0
Within xs ys = (l : ℤ) → has xs l ≡ true → has ys l ≡ true

or-left : (a b : Bool) → a ≡ true → (a || b) ≡ true
or-left true b h = refl
or-left false b h = absurd (false≢true h)

pub or-right : (a b : Bool) → b ≡ true → (a || b) ≡ true
or-right true b h = refl
or-right false b h = h

pub or-cases : {G : Type 0} (a b : Bool) → (a || b) ≡ true → (a ≡ true → G) → (b ≡ true → G) → G
or-cases true b h first second = first refl
or-cases false b h first second = second h

has-pushed : (xs : List ℤ) (m l : ℤ) → has xs l ≡ true → has (xs ++ m ∷ []) l ≡ true
has-pushed [] m l h = absurd (false≢true h)
has-pushed (x ∷ xs) m l h = or-cases (int_eq x l) (has xs l) h (λ e. or-left (int_eq x l) (has (xs ++ m ∷ []) l) e) (λ e. or-right (int_eq x l) (has (xs ++ m ∷ []) l) (has-pushed xs m l e))

has-last : (xs : List ℤ) (m : ℤ) → has (xs ++ m ∷ []) m ≡ true
has-last [] m = or-left (int_eq m m) false ((Decides-int_eq m m).1 refl)
has-last (x ∷ xs) m = or-right (int_eq x m) (has (xs ++ m ∷ []) m) (has-last xs m)

pub with-has : (xs : List ℤ) (m : ℤ) → has (with_literal xs m) m ≡ true
with-has xs m = by_test (has xs m) refl
  where
    by_test : (b : Bool) → has xs m ≡ b → has (cond b xs (xs ++ m ∷ [])) m ≡ true
    by_test true e = e
    by_test false e = has-last xs m

pub with-within : (xs : List ℤ) (m : ℤ) → Within xs (with_literal xs m)
with-within xs m l h = by_test (has xs m)
  where
    by_test : (b : Bool) → has (cond b xs (xs ++ m ∷ [])) l ≡ true
    by_test true = h
    by_test false = has-pushed xs m l h

pub unit-within : (xs c : List ℤ) → Within xs (with_unit xs c)
unit-within xs c l h = by_left (left xs c)
  where
    by_left : (k : Left) → has (elim k [ Falsified ↦ xs | One m ↦ with_literal xs m | Open ↦ xs ]) l ≡ true
    by_left Falsified = h
    by_left (One m) = with-within xs m l h
    by_left Open = h

pub round-within : (xs : List ℤ) (cs : List (List ℤ)) → Within xs (round xs cs)
round-within xs [] l h = h
round-within xs (c ∷ cs) l h = round-within (with_unit xs c) cs l (unit-within xs c l h)

pub rounds-within : (n : ℕ) (xs : List ℤ) (cs : List (List ℤ)) → Within xs (rounds n xs cs)
rounds-within zero xs cs l h = h
rounds-within (suc n) xs cs l h = rounds-within n (round xs cs) cs l (round-within xs cs l h)

pub propagated-within : (xs : List ℤ) (cs : List (List ℤ)) → Within xs (propagated xs cs)
propagated-within xs cs = rounds-within (length cs) xs cs

-- one round at least
pub round-propagated : (xs : List ℤ) (c : List ℤ) (cs : List (List ℤ)) → Within (round xs (c ∷ cs)) (propagated xs (c ∷ cs))
round-propagated xs c cs = rounds-within (length cs) (round xs (c ∷ cs)) (c ∷ cs)

pub round-append : (xs : List ℤ) (cs ds : List (List ℤ)) → round xs (cs ++ ds) ≡ round (round xs cs) ds
round-append xs [] ds = refl
round-append xs (c ∷ cs) ds = round-append (with_unit xs c) cs ds

-- ---- values

pub value-within : (xs ys : List ℤ) (l : ℤ) → Within xs ys → has_value xs l ≡ true → has_value ys l ≡ true
value-within xs ys l within h = or-cases (has xs l) (has xs (neg_ℤ l)) h (λ e. or-left (has ys l) (has ys (neg_ℤ l)) (within l e)) (λ e. or-right (has ys l) (has ys (neg_ℤ l)) (within (neg_ℤ l) e))

pub value-is : (xs : List ℤ) (l : ℤ) → has xs l ≡ true → has_value xs l ≡ true
value-is xs l h = or-left (has xs l) (has xs (neg_ℤ l)) h

pub value-not : (xs : List ℤ) (l : ℤ) → has xs (neg_ℤ l) ≡ true → has_value xs l ≡ true
value-not xs l h = or-right (has xs l) (has xs (neg_ℤ l)) h
