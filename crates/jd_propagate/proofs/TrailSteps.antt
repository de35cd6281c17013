-- A trail with a literal more, and with one less.
use Rattle.std.proofs.Common.{◌≡◌, ◌⊎◌, inl, inr, ℕ, zero, suc, ◌+◌, ◌<◌, ◌≤◌, ◌^◌, ℤ, pos, negsuc, Bool, true, false, ◌||◌, List, [], ◌∷◌, ◌++◌, length, take, get_or, set, refl, ap, sym, ◌∙◌, subst, arith, get_or-set_same, get_or-set_other}
use Rattle.std.specs.Prelude.{neg_ℤ}
use Rattle.std.specs.Ordering.{int_eq}
use Rattle.std.proofs.Math.IntN.{neg_ℤ-neg_ℤ}
use Rattle.std.proofs.lemmas.List.{take_at, take-append-le, get_or_append_left, get_or_push, length_push}
use Rattle.std.proofs.lemmas.List.Elements.{All-push}
use Rattle.jd_logic.specs.Literals.{IsLiteral, AreLiterals, has}
use Rattle.jd_proving.specs.Propagation.{has_value}
use Rattle.jd_propagate.specs.Quiet.{IsIn, HasNoOpposites}
use Rattle.jd_propagate.specs.Trails.{key_of, AreMarked, IsTrail}
use Rattle.jd_propagate.proofs.Members.{false_is_not_true, not_true, has-append, has-append_left, has-append_right, has-here, has-push_cases, int_eq-same, int_eq-refl}

pub key_is_own : (l m : ℤ) → key_of l ≡ key_of m → l ≡ m
key_is_own (pos a) (pos b) e = ap pos (omega arith)
key_is_own (pos a) (negsuc b) e = absurd (omega arith)
key_is_own (negsuc a) (pos b) e = absurd (omega arith)
key_is_own (negsuc a) (negsuc b) e = ap negsuc (omega arith)

pub key_small : (l : ℤ) → IsLiteral l → key_of l < 2 ^ 40
key_small (pos a) is = let h : a < 2 ^ 31 = is.bounded in omega arith
key_small (negsuc a) is = let h : suc a < 2 ^ 31 = is.bounded in omega arith

cases_same : (l m : ℤ) → (l ≡ m) ⊎ (int_eq l m ≡ false)
cases_same l m = by (int_eq l m) refl
  where
    by : (b : Bool) → int_eq l m ≡ b → (l ≡ m) ⊎ (int_eq l m ≡ false)
    by true e = inl (int_eq-same l m e)
    by false e = inr e

pub not_own_negation : (l : ℤ) → IsLiteral l → l ≡ neg_ℤ l → ⊥
not_own_negation (pos zero) is e = (let h : 0 < 0 = is.not_zero in omega arith)
not_own_negation (pos (suc n)) is e = cc
not_own_negation (negsuc n) is e = cc

has-push_other : (xs : List ℤ) (l m : ℤ) → int_eq l m ≡ false → has (xs ++ l ∷ []) m ≡ has xs m
has-push_other xs l m isnt = has-append xs (l ∷ []) m ∙ ap (λ (b : Bool). has xs m || (b || false)) isnt ∙ or_nothing (has xs m)
  where
    or_nothing : (a : Bool) → (a || false) ≡ a
    or_nothing true = refl
    or_nothing false = refl

has-push_same : (xs : List ℤ) (l : ℤ) → has (xs ++ l ∷ []) l ≡ true
has-push_same xs l = has-append_right xs (l ∷ []) l (has-here l [])

pub value-left : (xs : List ℤ) (l : ℤ) → has_value xs l ≡ false → has xs l ≡ false
value-left xs l h = not_true (has xs l) (λ e. false_is_not_true (has_value xs l) h (with (has xs l) (has xs (neg_ℤ l)) e))
  where
    with : (a b : Bool) → a ≡ true → (a || b) ≡ true
    with true b e = refl
    with false b e = cc

pub value-right : (xs : List ℤ) (l : ℤ) → has_value xs l ≡ false → has xs (neg_ℤ l) ≡ false
value-right xs l h = not_true (has xs (neg_ℤ l)) (λ e. false_is_not_true (has_value xs l) h (with (has xs l) (has xs (neg_ℤ l)) e))
  where
    with : (a b : Bool) → b ≡ true → (a || b) ≡ true
    with true b e = refl
    with false b e = e

own : (l m : ℤ) → m ≡ l → int_eq l m ≡ true
own l m e = let P : ℤ → Type 0 = λ z. int_eq l z ≡ true in subst P (sym e) (int_eq-refl l)

marked-push : (marks made : List Bool) (trail : List ℤ) (l : ℤ) → AreMarked marks trail → ((k : ℕ) → get_or made k false ≡ get_or marks k false) → key_of l < length made
    → AreMarked (set made (key_of l) true) (trail ++ l ∷ [])
marked-push marks made trail l h same room = record {
  agree = λ m is. elim (cases_same l m) [
    | inl e ↦ (let P : ℤ → Type 0 = λ z. get_or (set made (key_of l) true) (key_of z) false ≡ has (trail ++ l ∷ []) z in
        subst P e (get_or-set_same made (key_of l) true false room ∙ sym (has-push_same trail l)))
    | inr isnt ↦ get_or-set_other made (key_of l) (key_of m) true false (λ e. false_is_not_true (int_eq l m) isnt (own l m (key_is_own m l e)))
        ∙ same (key_of m) ∙ h.agree m is ∙ sym (has-push_other trail l m isnt)
  ];
}

no_opposites-push : (trail : List ℤ) (l : ℤ) → IsLiteral l → has_value trail l ≡ false → HasNoOpposites trail → HasNoOpposites (trail ++ l ∷ [])
no_opposites-push trail l lit none h = λ m is. not_true (has (trail ++ l ∷ []) (neg_ℤ m)) (λ e. apart m (has-push_cases trail l m is) (has-push_cases trail l (neg_ℤ m) e))
  where
    apart : (m : ℤ) → IsIn trail m ⊎ (l ≡ m) → IsIn trail (neg_ℤ m) ⊎ (l ≡ neg_ℤ m) → ⊥
    apart m (inl a) (inl b) = false_is_not_true (has trail (neg_ℤ m)) (h m a) b
    apart m (inl a) (inr f) =
        let P : ℤ → Type 0 = λ z. IsIn trail z in
        let back : m ≡ neg_ℤ l = sym (ap neg_ℤ f ∙ neg_ℤ-neg_ℤ m) in
        false_is_not_true (has trail (neg_ℤ l)) (value-right trail l none) (subst P back a)
    apart m (inr e) (inl b) =
        let P : ℤ → Type 0 = λ z. IsIn trail z in
        false_is_not_true (has trail (neg_ℤ l)) (value-right trail l none) (subst P (ap neg_ℤ (sym e)) b)
    apart m (inr e) (inr f) = not_own_negation l lit (f ∙ ap neg_ℤ (sym e))

trail-push : (trail : List ℤ) (l : ℤ) → IsTrail trail → IsLiteral l → has_value trail l ≡ false → IsTrail (trail ++ l ∷ [])
trail-push trail l t lit none = record {
  literals = All-push IsLiteral trail l t.literals lit;
  fresh = λ i lt. by i (cases i (length_push trail l) lt);
  no_opposites = no_opposites-push trail l lit none t.no_opposites;
}
  where
    cases : (i : ℕ) → length (trail ++ l ∷ []) ≡ length trail + 1 → i < length (trail ++ l ∷ []) → (i < length trail) ⊎ (i ≡ length trail)
    cases i e lt = grind arith

    by : (i : ℕ) → (i < length trail) ⊎ (i ≡ length trail) → has_value (take i (trail ++ l ∷ [])) (get_or (trail ++ l ∷ []) i (pos 0)) ≡ false
    by i (inl lt) =
        let f : List ℤ → ℤ → Bool = λ xs z. has_value xs z in
        ap (λ xs. f xs (get_or (trail ++ l ∷ []) i (pos 0))) (take-append-le i trail (l ∷ []) (omega arith))
        ∙ ap (f (take i trail)) (get_or_append_left trail (l ∷ []) (pos 0) i lt) ∙ t.fresh i lt
    by i (inr e) =
        let f : List ℤ → ℤ → Bool = λ xs z. has_value xs z in
        ap (λ xs. f xs (get_or (trail ++ l ∷ []) i (pos 0))) (take_at trail (l ∷ []) i (sym e))
        ∙ ap (f trail) (get_or_push trail l (pos 0) i (sym e)) ∙ none

pub pushed : (marks made : List Bool) (trail next : List ℤ) (l : ℤ) (k : ℕ) → k ≡ key_of l → next ≡ trail ++ l ∷ [] → AreMarked marks trail × IsTrail trail → IsLiteral l → has_value trail l ≡ false
    → ((j : ℕ) → get_or made j false ≡ get_or marks j false) → k < length made → AreMarked (set made k true) next × IsTrail next
pushed marks made trail next l k is are h lit none same room =
    let P : ℕ → Type 0 = λ j. AreMarked (set made j true) (trail ++ l ∷ []) × IsTrail (trail ++ l ∷ []) in
    let Q : List ℤ → Type 0 = λ xs. AreMarked (set made k true) xs × IsTrail xs in
    let lt : key_of l < length made = omega arith in
    subst Q (sym are) (subst P (sym is) (marked-push marks made trail l (h.0) same lt, trail-push trail l (h.1) lit none))

marked-pop : (marks : List Bool) (trail : List ℤ) (l : ℤ) → AreMarked marks (trail ++ l ∷ []) → has trail l ≡ false → AreMarked (set marks (key_of l) false) trail
marked-pop marks trail l h none = record {
  agree = λ m is. elim (cases_same l m) [
    | inl e ↦ (let P : ℤ → Type 0 = λ z. get_or (set marks (key_of l) false) (key_of z) false ≡ has trail z in
        subst P e (cleared marks (key_of l) ∙ sym none))
    | inr isnt ↦ get_or-set_other marks (key_of l) (key_of m) false false (λ e. false_is_not_true (int_eq l m) isnt (own l m (key_is_own m l e)))
        ∙ h.agree m is ∙ has-push_other trail l m isnt
  ];
}
  where
    cleared : (xs : List Bool) (k : ℕ) → get_or (set xs k false) k false ≡ false
    cleared [] k = refl
    cleared (x ∷ xs) zero = refl
    cleared (x ∷ xs) (suc k) = cleared xs k

trail-pop : (trail : List ℤ) (l : ℤ) → IsTrail (trail ++ l ∷ []) → IsTrail trail × (has trail l ≡ false)
trail-pop trail l t =
    let n = length_push trail l in
    let last = t.fresh (length trail) (omega (arith, n)) in
    let f : List ℤ → ℤ → Bool = λ xs z. has_value xs z in
    let e : has_value trail l ≡ false =
    sym (ap (λ xs. f xs l) (take_at trail (l ∷ []) (length trail) refl))
    ∙ ap (f (take (length trail) (trail ++ l ∷ []))) (sym (get_or_push trail l (pos 0) (length trail) refl)) ∙ last in (
      record {
        literals = front trail l t.literals;
        fresh = λ i lt. by i lt;
        no_opposites = λ m is. fewer m (t.no_opposites m (has-append_left trail (l ∷ []) m is));
      },
      value-left trail l e,
    )
  where
    front : (xs : List ℤ) (l : ℤ) → AreLiterals (xs ++ l ∷ []) → AreLiterals xs
    front xs l all = λ k d lt. (let P : ℤ → Type 0 = λ z. IsLiteral z in subst P (get_or_append_left xs (l ∷ []) d k lt) (all k d (omega (arith, length_push xs l))))

    by : (i : ℕ) → i < length trail → has_value (take i trail) (get_or trail i (pos 0)) ≡ false
    by i lt =
        let f : List ℤ → ℤ → Bool = λ xs z. has_value xs z in
        sym (ap (λ xs. f xs (get_or trail i (pos 0))) (take-append-le i trail (l ∷ []) (omega arith)))
        ∙ ap (f (take i (trail ++ l ∷ []))) (sym (get_or_append_left trail (l ∷ []) (pos 0) i lt)) ∙ t.fresh i (omega (arith, length_push trail l))

    fewer : (m : ℤ) → has (trail ++ l ∷ []) (neg_ℤ m) ≡ false → has trail (neg_ℤ m) ≡ false
    fewer m e = not_true (has trail (neg_ℤ m)) (λ a. false_is_not_true (has (trail ++ l ∷ []) (neg_ℤ m)) e (has-append_left trail (l ∷ []) (neg_ℤ m) a))

pub popped : (marks : List Bool) (trail next : List ℤ) (l : ℤ) (k : ℕ) → k ≡ key_of l → trail ≡ next ++ l ∷ [] → AreMarked marks trail × IsTrail trail → AreMarked (set marks k false) next × IsTrail next
popped marks trail next l k is are h =
    let P : ℕ → Type 0 = λ j. AreMarked (set marks j false) next in
    let M : List ℤ → Type 0 = λ xs. AreMarked marks xs in
    let T : List ℤ → Type 0 = λ xs. IsTrail xs in
    let t = trail-pop next l (subst T are (h.1)) in
    (subst P (sym is) (marked-pop marks next l (subst M are (h.0)) (t.1)), t.0)

-- where a key has no place, its mark is false already
pub popped-beyond : (marks : List Bool) (trail next : List ℤ) (l : ℤ) (k : ℕ) → k ≡ key_of l → length marks ≤ k → trail ≡ next ++ l ∷ [] → AreMarked marks trail × IsTrail trail → AreMarked marks next × IsTrail next
popped-beyond marks trail next l k is beyond are h =
    let p = popped marks trail next l k is are h in
    let M : List Bool → Type 0 = λ xs. AreMarked xs next in
    (subst M (set-beyond marks k beyond) (p.0), p.1)
  where
    set-beyond : (xs : List Bool) (k : ℕ) → length xs ≤ k → set xs k false ≡ xs
    set-beyond [] k h = refl
    set-beyond (x ∷ xs) zero h = absurd (omega arith)
    set-beyond (x ∷ xs) (suc k) h = ap (λ ys. x ∷ ys) (set-beyond xs k (omega arith))
