-- What a clause's turn keeps: settled clauses before earlier decisions, and reasons.
use Rattle.std.proofs.Common.{◌≡◌, ◌≢◌, ◌⊎◌, inl, inr, ℕ, ◌<◌, ◌≤◌, ℤ, pos, false, List, [], ◌∷◌, ◌++◌, take, length, get_or, set, sym, subst, arith, get_or-set_same, get_or-set_other, Some}
use Rattle.std.specs.Prelude.{neg_ℤ}
use Rattle.std.proofs.Math.IntN.{neg_ℤ-neg_ℤ}
use Rattle.std.proofs.lemmas.Bool.{cases_eq, cases_lt}
use Rattle.std.proofs.lemmas.List.{take-append-le, take_at, get_or_append_left, get_or_push, length_push}
use Rattle.jd_logic.specs.Literals.{has}
use Rattle.jd_propagate.specs.Quiet.{IsIn, HasNoOpposites}
use Rattle.jd_propagate.specs.Hints.{IsCause}
use Rattle.jd_propagate.specs.Watched.{IsSettled}
use Rattle.jd_propagate.specs.Passing.{literal_at, clause_of, AreSettled, Extends, IsOther, KeepsSettled}
use Rattle.jd_propagate.specs.declared.reason.Reason.{Reason}
use Rattle.jd_propagate.specs.declared.reason.Reason.TheVariants.{Decision, Clause}
use Rattle.jd_propagate.specs.Reasons.{IsReason, AreReasons, KeepsReasons}
use Rattle.jd_propagate.proofs.Turns.{settled_of}
use Rattle.jd_propagate.proofs.Watching.{settled-moves_before}
use Rattle.jd_propagate.proofs.Extensions.{front-stays, within-take}

pub keeps-same : (clauses : List (List ℤ)) (fs ss trail next : List ℤ) → Extends trail next → KeepsSettled clauses fs ss trail fs ss next
keeps-same clauses fs ss trail next e = λ n le s. (let P : List ℤ → Type 0 = λ xs. AreSettled clauses fs ss xs xs in subst P (sym (front-stays trail next n le e)) s)

-- another watched literal, in place of a false one
pub keeps-moved : (clauses : List (List ℤ)) (fs ss trail : List ℤ) (p l other : ℤ) (x : ℕ) → x < length clauses → length fs ≡ length clauses → length ss ≡ length clauses
    → IsOther (literal_at fs x) (literal_at ss x) (neg_ℤ p) (Some other) → IsIn trail p → HasNoOpposites trail → has trail (neg_ℤ l) ≡ false
    → KeepsSettled clauses fs ss trail (set fs x l) (set ss x other) trail
keeps-moved clauses fs ss trail p l other x lt fm sm o in' h open' = λ n le s c below. by n s c below (cases_eq c x)
  where
    by : (n : ℕ) → AreSettled clauses fs ss (take n trail) (take n trail) → (c : ℕ) → c < length clauses → (c ≡ x) ⊎ (c ≢ x)
        → IsSettled (take n trail) (take n trail) (literal_at (set fs x l) c) (literal_at (set ss x other) c)
    by n s c below (inr ne) =
        let b = take n trail in
        let P : ℤ → Type 0 = λ z. IsSettled b b z (literal_at (set ss x other) c) in
        let Q : ℤ → Type 0 = λ z. IsSettled b b (literal_at fs c) z in
        subst P (sym (get_or-set_other fs x c l (pos 0) ne)) (subst Q (sym (get_or-set_other ss x c other (pos 0) ne)) (s c below))
    by n s c below (inl e) =
        let b = take n trail in
        let C : ℕ → Type 0 = λ d. IsSettled b b (literal_at (set fs x l) d) (literal_at (set ss x other) d) in
        let P : ℤ → Type 0 = λ z. IsSettled b b z (literal_at (set ss x other) x) in
        let Q : ℤ → Type 0 = λ z. IsSettled b b l z in
        let I : ℤ → Type 0 = λ z. IsIn trail z in
        let old = settled_of b b (literal_at fs x) (literal_at ss x) (neg_ℤ p) other o (s x lt) in
        let new = settled-moves_before b trail (neg_ℤ p) other l (within-take trail n) (subst I (sym (neg_ℤ-neg_ℤ p)) in') h open' old in
        subst C (sym e) (subst P (sym (get_or-set_same fs x l (pos 0) (omega arith))) (subst Q (sym (get_or-set_same ss x other (pos 0) (omega arith))) new))

-- a literal more, with its reason
pub reasons-more : (clauses : List (List ℤ)) (store : List (ℕ × List ℤ)) (decisions assumed trail : List ℤ) (reasons : List Reason) (l : ℤ) (r : Reason)
    → AreReasons clauses store decisions assumed trail reasons → IsReason clauses store decisions assumed trail l r → AreReasons clauses store decisions assumed (trail ++ l ∷ []) (reasons ++ r ∷ [])
reasons-more clauses store decisions assumed trail reasons l r are here = record {
  as_many = (let a = are.as_many in omega (arith, a, length_push trail l, length_push reasons r));
  each = λ i below. by i (cases_lt i (length trail)) below;
}
  where
    by : (i : ℕ) → (i < length trail) ⊎ (length trail ≤ i) → i < length (trail ++ l ∷ [])
        → IsReason clauses store decisions assumed (take i (trail ++ l ∷ [])) (get_or (trail ++ l ∷ []) i (pos 0)) (get_or (reasons ++ r ∷ []) i Decision)
    by i (inl a) below =
        let m = are.as_many in
        let V : Reason → Type 0 = λ v. IsReason clauses store decisions assumed (take i (trail ++ l ∷ [])) (get_or (trail ++ l ∷ []) i (pos 0)) v in
        let T : List ℤ → Type 0 = λ xs. IsReason clauses store decisions assumed xs (get_or (trail ++ l ∷ []) i (pos 0)) (get_or reasons i Decision) in
        let L : ℤ → Type 0 = λ z. IsReason clauses store decisions assumed (take i trail) z (get_or reasons i Decision) in
        subst V (sym (get_or_append_left reasons (r ∷ []) Decision i (omega arith)))
        (subst T (sym (take-append-le i trail (l ∷ []) (omega arith))) (subst L (sym (get_or_append_left trail (l ∷ []) (pos 0) i a)) (are.each i a)))
    by i (inr b) below =
        let n = length_push trail l in
        let w = are.as_many in
        let at : length trail ≡ i = omega arith in
        let V : Reason → Type 0 = λ v. IsReason clauses store decisions assumed (take i (trail ++ l ∷ [])) (get_or (trail ++ l ∷ []) i (pos 0)) v in
        let T : List ℤ → Type 0 = λ xs. IsReason clauses store decisions assumed xs (get_or (trail ++ l ∷ []) i (pos 0)) r in
        let L : ℤ → Type 0 = λ z. IsReason clauses store decisions assumed trail z r in
        subst V (sym (get_or_push reasons r Decision i (omega arith)))
        (subst T (sym (take_at trail (l ∷ []) i at)) (subst L (sym (get_or_push trail l (pos 0) i at)) here))

pub reasons-pushed : (clauses : List (List ℤ)) (trail next : List ℤ) (reasons after : List Reason) (l m : ℤ) (x : ℕ) → next ≡ trail ++ l ∷ [] → after ≡ reasons ++ Clause x ∷ [] → l ≡ m → x < length clauses
    → IsCause trail (clause_of clauses x) m → KeepsReasons clauses trail reasons next after
reasons-pushed clauses trail next reasons after l m x e f is lt cause = λ store decisions assumed r.
    let P : List ℤ → Type 0 = λ xs. AreReasons clauses store decisions assumed xs after in
    let Q : List Reason → Type 0 = λ ys. AreReasons clauses store decisions assumed (trail ++ l ∷ []) ys in
    let C : ℤ → Type 0 = λ z. IsCause trail (clause_of clauses x) z in
    subst P (sym e) (subst Q (sym f) (reasons-more clauses store decisions assumed trail reasons l (Clause x) r (lt, subst C (sym is) cause)))

pub keeps-again : (clauses : List (List ℤ)) (fs ss t fs' ss' t' fs'' ss'' t'' : List ℤ) → Extends t t' → KeepsSettled clauses fs ss t fs' ss' t' → KeepsSettled clauses fs' ss' t' fs'' ss'' t''
    → KeepsSettled clauses fs ss t fs'' ss'' t''
keeps-again clauses fs ss t fs' ss' t' fs'' ss'' t'' e a b = λ n le s. (let l = e.longer in b n (omega arith) (a n le s))
