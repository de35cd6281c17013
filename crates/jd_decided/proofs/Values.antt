-- A model by propagation is values of all variables.
use Rattle.std.proofs.Common.{◌≡◌, ℕ, zero, suc, ◌+◌, ◌-◌, ◌<◌, ◌&&◌, ◌||◌, Bool, true, false, not, cond, List, [], ◌∷◌, length, get_or, refl, sym, ap, ◌∙◌, subst, arith, ℤ, pos, negsuc, neg_ℤ, ◌==◌}
use Rattle.std.specs.List.{list_any, list_all}
use Rattle.std.specs.Ordering.{int_eq}
use Rattle.std.proofs.Math.IntN.{neg_ℤ-neg_ℤ}
use Rattle.std.proofs.lemmas.Bool.{false≢true}
use Rattle.std.proofs.lemmas.Bool.Decides.{Decides-int_eq, nat_tests}
use Rattle.jd_text.proofs.Tests.{left-part, right-part}
use Rattle.jd_logic.specs.Literals.{has}
use Rattle.jd_books.specs.Clauses.{is_true_number, is_true_clause, are_true}
use Rattle.jd_proving.specs.Propagation.{has_opposites, has_false, is_consistent}
use Rattle.jd_proving.specs.Proving.{literals_from, literals_of, made_true, IsModel}
use Rattle.jd_decided.specs.Laws.{AreValues}
use Rattle.jd_decided.proofs.Growing.{or-right, or-cases, propagated-within}

not-true : (b : Bool) → not b ≡ true → b ≡ false
not-true true h = sym h
not-true false h = refl

none-of : (P : ℤ → Bool) (xs : List ℤ) (l : ℤ) → list_any P xs ≡ false → has xs l ≡ true → P l ≡ false
none-of P [] l none h = absurd (false≢true h)
none-of P (x ∷ xs) l none h =
    or-cases (int_eq x l) (has xs l) h
    (λ e. ap P (sym ((Decides-int_eq x l).0 e)) ∙ first (P x) (list_any P xs) none)
    (λ e. none-of P xs l (second (P x) (list_any P xs) none) e)
  where
    first : (a b : Bool) → (a || b) ≡ false → a ≡ false
    first true b h = h
    first false b h = refl

    second : (a b : Bool) → (a || b) ≡ false → b ≡ false
    second true b h = absurd (false≢true (sym h))
    second false b h = h

-- no literal stands beside its negation
no-opposite : (t : List ℤ) (l : ℤ) → has_opposites t ≡ false → has t l ≡ true → has t (neg_ℤ l) ≡ false
no-opposite t l none h = none-of (λ m. has t (neg_ℤ m)) t l none h

abbrev values_of : List ℤ → ℕ → Bool
values_of t v = has t (pos v)

number-true : (t : List ℤ) (l : ℤ) → has_opposites t ≡ false → has t l ≡ true → is_true_number (values_of t) l ≡ true
number-true t (pos zero) none h = absurd (false≢true (sym (no-opposite t (pos zero) none h) ∙ h))
number-true t (pos (suc v)) none h = h
number-true t (negsuc v) none h = ap not (no-opposite t (negsuc v) none h)

clause-true : (t c : List ℤ) → has_opposites t ≡ false → list_any (has t) c ≡ true → is_true_clause (values_of t) c ≡ true
clause-true t [] none h = absurd (false≢true h)
clause-true t (l ∷ c) none h =
    or-cases (has t l) (list_any (has t) c) h
    (λ e. or-front (is_true_number (values_of t) l) (is_true_clause (values_of t) c) (number-true t l none e))
    (λ e. or-right (is_true_number (values_of t) l) (is_true_clause (values_of t) c) (clause-true t c none e))
  where
    or-front : (a b : Bool) → a ≡ true → (a || b) ≡ true
    or-front true b h = refl
    or-front false b h = absurd (false≢true h)

all-true : (t : List ℤ) (cs : List (List ℤ)) → has_opposites t ≡ false → list_all (λ c. list_any (has t) c) cs ≡ true → are_true (values_of t) cs ≡ true
all-true t [] none h = refl
all-true t (c ∷ cs) none h =
    both _ _ (clause-true t c none (left-part (list_any (has t) c) (list_all (λ c. list_any (has t) c) cs) h))
    (all-true t cs none (right-part (list_any (has t) c) (list_all (λ c. list_any (has t) c) cs) h))
  where
    both : (a b : Bool) → a ≡ true → b ≡ true → (a && b) ≡ true
    both true true e f = refl
    both true false e f = absurd (false≢true f)
    both false b e f = absurd (false≢true e)

-- ---- the inputs

abbrev literal_for : Bool → ℕ → ℤ
literal_for b n = cond b (pos n) (neg_ℤ (pos n))

literal-at : (bits : List Bool) (n k : ℕ) → k < length bits → has (literals_from n bits) (literal_for (get_or bits k false) (n + k)) ≡ true
literal-at [] n k inside = absurd (omega (arith, inside))
literal-at (b ∷ bits) n zero inside =
    let e : n ≡ n + 0 = omega arith in
    subst (λ m. has (literal_for b n ∷ literals_from (suc n) bits) (literal_for b m) ≡ true) e (here (literal_for b n) (has (literals_from (suc n) bits) (literal_for b n)))
  where
    here : (l : ℤ) (r : Bool) → (int_eq l l || r) ≡ true
    here l r = rw ((Decides-int_eq l l).1 refl) refl
literal-at (b ∷ bits) n (suc k) inside =
    let e : suc n + k ≡ n + suc k = omega arith in
    subst (λ m. has (literals_from n (b ∷ bits)) (literal_for (get_or bits k false) m) ≡ true) e
    (or-right _ _ (literal-at bits (suc n) k (omega (arith, inside))))

input-is : (t : List ℤ) (b : Bool) (v : ℕ) → has_opposites t ≡ false → has t (literal_for b v) ≡ true → has t (pos v) ≡ b
input-is t true v none h = h
input-is t false v none h = ap (has t) (sym (neg_ℤ-neg_ℤ (pos v))) ∙ no-opposite t (neg_ℤ (pos v)) none h

pub model-count : (clauses : List (List ℤ)) (inputs : ℕ) (bits : List Bool) → IsModel clauses inputs bits → length bits ≡ inputs
model-count clauses inputs bits h =
    let t = made_true clauses bits in
    let front : (length bits == inputs && is_consistent t clauses) ≡ true = left-part (length bits == inputs && is_consistent t clauses) (list_all (λ c. list_any (has t) c) clauses) h in
    let counted : (length bits == inputs) ≡ true = left-part (length bits == inputs) (is_consistent t clauses) front in
    grind (arith, nat_tests)

pub model-values : (clauses : List (List ℤ)) (inputs : ℕ) (bits : List Bool) → IsModel clauses inputs bits → AreValues clauses bits
model-values clauses inputs bits h =
    let t = made_true clauses bits in
    let right : Bool = list_all (λ c. list_any (has t) c) clauses in
    let front : (length bits == inputs && is_consistent t clauses) ≡ true = left-part (length bits == inputs && is_consistent t clauses) right h in
    let whole : is_consistent t clauses ≡ true = right-part (length bits == inputs) (is_consistent t clauses) front in
    let none : has_opposites t ≡ false = not-true (has_opposites t) (left-part (not (has_opposites t)) (not (has_false t clauses)) whole) in
    record {
      values = values_of t;
      inputs = λ v low high.
          (let k : v - 1 < length bits = omega (arith, low, high) in
          let place : 1 + (v - 1) ≡ v = omega (arith, low) in
          let given : has (literals_of bits) (literal_for (get_or bits (v - 1) false) v) ≡ true =
          subst (λ m. has (literals_of bits) (literal_for (get_or bits (v - 1) false) m) ≡ true) place (literal-at bits 1 (v - 1) k) in
          input-is t (get_or bits (v - 1) false) v none (propagated-within (literals_of bits) clauses (literal_for (get_or bits (v - 1) false) v) given));
      all_true = all-true t clauses none (right-part (length bits == inputs && is_consistent t clauses) right h);
    }
