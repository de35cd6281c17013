-- Clauses by their ids, and reasons as clauses are added and literals taken away.
use Rattle.std.proofs.Common.{◌≡◌, ◌≢◌, ◌⊎◌, inl, inr, ℕ, zero, suc, ◌+◌, ◌<◌, ℤ, pos, Bool, true, false, cond, List, [], ◌∷◌, ◌++◌, take, length, get_or, refl, ap, sym, ◌∙◌, subst, arith, Some}
use Rattle.std.specs.Prelude.{neg_ℤ, ◌==◌}
use Rattle.std.proofs.lemmas.Bool.Decides.{Decides-eqb}
use Rattle.std.proofs.lemmas.List.{get_or_append_left, get_or_push, length_push}
use Rattle.jd_logic.specs.Derivation.{clause_of}
use Rattle.jd_logic.specs.Checking.{numbered_from}
use Rattle.jd_propagate.specs.declared.reason.Reason.{Reason}
use Rattle.jd_propagate.specs.declared.reason.Reason.TheVariants.{Decision, Clause, Line}
use Rattle.jd_propagate.specs.Quiet.{IsIn, IsWithin}
use Rattle.jd_propagate.specs.Hints.{IsCause}
use Rattle.jd_propagate.specs.Reasons.{IsReason, AreReasons}
use Rattle.jd_propagate.proofs.Members.{not_true, has-append_left}

pub same_id : (a b : ℕ) → a ≡ b → (a == b) ≡ true
same_id a b e = (Decides-eqb a b).1 e

pub other_id : (a b : ℕ) → a ≢ b → (a == b) ≡ false
other_id a b n = not_true (a == b) (λ e. n ((Decides-eqb a b).0 e))

-- the clause at a place has the id of its place
pub stored-at : (cs : List (List ℤ)) (from k id : ℕ) → id ≡ from + k → k < length cs → clause_of id (numbered_from from cs) ≡ Some (get_or cs k [])
stored-at [] from k id e lt = absurd (omega arith)
stored-at (c ∷ cs) from zero id e lt = ap (λ (b : Bool). cond b (Some c) (clause_of id (numbered_from (suc from) cs))) (same_id from id (omega arith))
stored-at (c ∷ cs) from (suc k) id e lt =
    let n : from ≢ id = omega arith in
    ap (λ (b : Bool). cond b (Some c) (clause_of id (numbered_from (suc from) cs))) (other_id from id n) ∙ stored-at cs (suc from) k id (omega arith) (omega arith)

-- clauses more
pub stored-more : (cs ds : List (List ℤ)) (from id : ℕ) (c : List ℤ) → clause_of id (numbered_from from cs) ≡ Some c → clause_of id (numbered_from from (cs ++ ds)) ≡ Some c
stored-more [] ds from id c e = cc
stored-more (x ∷ xs) ds from id c e = by (from == id) e (stored-more xs ds (suc from) id c)
  where
    by : (b : Bool) → cond b (Some x) (clause_of id (numbered_from (suc from) xs)) ≡ Some c
        → (clause_of id (numbered_from (suc from) xs) ≡ Some c → clause_of id (numbered_from (suc from) (xs ++ ds)) ≡ Some c)
        → cond b (Some x) (clause_of id (numbered_from (suc from) (xs ++ ds))) ≡ Some c
    by true e rest = e
    by false e rest = rest e

-- a reason beside more clauses and decisions
pub reason-weaker : (clauses next : List (List ℤ)) (store more : List (ℕ × List ℤ)) (decisions others assumed allowed before : List ℤ) (l : ℤ) (r : Reason)
    → ((c : ℕ) → c < length clauses → (c < length next) × (get_or clauses c [] ≡ get_or next c []))
    → ((id : ℕ) (clause : List ℤ) → clause_of id store ≡ Some clause → clause_of id more ≡ Some clause)
    → ((m : ℤ) → IsIn (before ++ l ∷ []) m → IsIn decisions m → IsIn others m)
    → ((m : ℤ) → IsIn (before ++ l ∷ []) m → IsIn assumed m → IsIn allowed m)
    → IsReason clauses store decisions assumed before l r → IsReason next more others allowed before l r
reason-weaker clauses next store more decisions others assumed allowed before l Decision grows stored kept still is = kept l (own before l) is
  where
    own : (xs : List ℤ) (l : ℤ) → IsIn (xs ++ l ∷ []) l
    own xs l = has-append_right' xs l
      where
        has-append_right' : (xs : List ℤ) (l : ℤ) → IsIn (xs ++ l ∷ []) l
        has-append_right' xs l = Rattle.jd_propagate.proofs.Members.has-append_right xs (l ∷ []) l (Rattle.jd_propagate.proofs.Members.has-here l [])
reason-weaker clauses next store more decisions others assumed allowed before l (Clause c) grows stored kept still (lt, cause) =
    let g = grows c lt in
    let P : List ℤ → Type 0 = λ xs. IsCause before xs l in
    (g.0, subst P (g.1) cause)
reason-weaker clauses next store more decisions others assumed allowed before l (Line id) grows stored kept still (clause, shown) = (
  clause,
  record {
    not_zero = shown.not_zero;
    small = shown.small;
    stored = stored id clause shown.stored;
    among = shown.among;
    others = λ m is. by m (shown.others m is);
  },
)
  where
    by : (m : ℤ) → (m ≡ l) ⊎ (IsIn before (neg_ℤ m) × IsIn assumed (neg_ℤ m)) → (m ≡ l) ⊎ (IsIn before (neg_ℤ m) × IsIn allowed (neg_ℤ m))
    by m (inl e) = inl e
    by m (inr (b, d)) = inr (b, still (neg_ℤ m) (has-append_left before (l ∷ []) (neg_ℤ m) b) d)

pub reasons-weaker : (clauses next : List (List ℤ)) (store more : List (ℕ × List ℤ)) (decisions others assumed allowed trail : List ℤ) (reasons : List Reason)
    → ((c : ℕ) → c < length clauses → (c < length next) × (get_or clauses c [] ≡ get_or next c []))
    → ((id : ℕ) (clause : List ℤ) → clause_of id store ≡ Some clause → clause_of id more ≡ Some clause)
    → IsWithin decisions others → IsWithin assumed allowed
    → AreReasons clauses store decisions assumed trail reasons → AreReasons next more others allowed trail reasons
reasons-weaker clauses next store more decisions others assumed allowed trail reasons grows stored kept still are = record {
  as_many = are.as_many;
  each = λ i lt. reason-weaker clauses next store more decisions others assumed allowed (take i trail) (get_or trail i (pos 0)) (get_or reasons i Decision) grows stored (λ m _ d. kept m d) (λ m _ d. still m d) (are.each i lt);
}

pub same_clauses : (clauses : List (List ℤ)) (c : ℕ) → c < length clauses → (c < length clauses) × (get_or clauses c [] ≡ get_or clauses c [])
same_clauses clauses c lt = (lt, refl)

pub more_clauses : (clauses : List (List ℤ)) (clause : List ℤ) (c : ℕ) → c < length clauses → (c < length (clauses ++ clause ∷ [])) × (get_or clauses c [] ≡ get_or (clauses ++ clause ∷ []) c [])
more_clauses clauses clause c lt = (omega (arith, length_push clauses clause), sym (get_or_append_left clauses (clause ∷ []) [] c lt))

-- the last clause has the next id
pub stored-push : (cs : List (List ℤ)) (c : List ℤ) (id : ℕ) → id ≡ length cs + 1 → clause_of id (numbered_from 1 (cs ++ c ∷ [])) ≡ Some c
stored-push cs c id e = stored-at (cs ++ c ∷ []) 1 (length cs) id (omega arith) (omega (arith, length_push cs c)) ∙ ap (λ (xs : List ℤ). Some xs) (get_or_push cs c [] (length cs) refl)
