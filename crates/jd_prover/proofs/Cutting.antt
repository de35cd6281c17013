-- What stays when decisions are taken back.
use Rattle.std.proofs.Common.{◌≡◌, inl, inr, ℕ, zero, suc, ◌+◌, ◌<◌, ◌≤◌, ℤ, pos, List, [], ◌∷◌, ◌++◌, take, length, get_or, refl, ap, sym, ◌∙◌, subst, arith}
use Rattle.std.proofs.Math.Seq.{take-take}
use Rattle.std.proofs.lemmas.List.{take_more}
use Rattle.jd_propagate.specs.declared.reason.Reason.{Reason}
use Rattle.jd_propagate.specs.declared.reason.Reason.TheVariants.{Decision}
use Rattle.jd_propagate.specs.Quiet.{IsIn, IsWithin, IsQuiet, AreQuiet}
use Rattle.jd_propagate.specs.Passing.{clause_of}
use Rattle.jd_propagate.specs.Reasons.{IsReason, AreReasons}
use Rattle.jd_propagate.proofs.Extensions.{within-take}
use Rattle.jd_prover.specs.Solving.{IsCovered}
use Rattle.jd_prover.proofs.Stored.{reason-weaker, same_clauses}
use Rattle.std.proofs.lemmas.List.Elements.{All-from_get_or}

pub taken-length : {A : Type 0} (xs : List A) (n : ℕ) → n ≤ length xs → length (take n xs) ≡ n
taken-length [] zero h = refl
taken-length [] (suc n) h = absurd (omega arith)
taken-length (x ∷ xs) zero h = refl
taken-length (x ∷ xs) (suc n) h = ap suc (taken-length xs n (omega arith))

pub taken-at : {A : Type 0} (xs : List A) (n i : ℕ) (d : A) → i < n → get_or (take n xs) i d ≡ get_or xs i d
taken-at xs zero i d h = absurd (omega arith)
taken-at [] (suc n) i d h = refl
taken-at (x ∷ xs) (suc n) zero d h = refl
taken-at (x ∷ xs) (suc n) (suc i) d h = taken-at xs n i d (omega arith)

-- the reasons of the first literals, of which no decision is lost
pub reasons-cut : (clauses : List (List ℤ)) (store : List (ℕ × List ℤ)) (decisions fewer assumed allowed trail : List ℤ) (reasons : List Reason) (n : ℕ) → n ≤ length trail
    → ((l : ℤ) → IsIn (take n trail) l → IsIn decisions l → IsIn fewer l) → ((l : ℤ) → IsIn (take n trail) l → IsIn assumed l → IsIn allowed l)
    → AreReasons clauses store decisions assumed trail reasons → AreReasons clauses store fewer allowed (take n trail) (take n reasons)
reasons-cut clauses store decisions fewer assumed allowed trail reasons n le kept still are = record {
  as_many = taken-length reasons n (let a = are.as_many in omega arith) ∙ sym (taken-length trail n le);
  each = λ i lt. by i (let e = taken-length trail n le in let h : i < n = omega arith in h);
}
  where
    by : (i : ℕ) → i < n → IsReason clauses store fewer allowed (take i (take n trail)) (get_or (take n trail) i (pos 0)) (get_or (take n reasons) i Decision)
    by i h =
        let same : take i (take n trail) ≡ take i trail = take-take i n trail (omega arith) in
        let T : List ℤ → Type 0 = λ xs. IsReason clauses store fewer allowed xs (get_or (take n trail) i (pos 0)) (get_or (take n reasons) i Decision) in
        let L : ℤ → Type 0 = λ z. IsReason clauses store fewer allowed (take i trail) z (get_or (take n reasons) i Decision) in
        let R : Reason → Type 0 = λ r. IsReason clauses store fewer allowed (take i trail) (get_or trail i (pos 0)) r in
        let next : take (i + 1) (take n trail) ≡ take i trail ++ get_or trail i (pos 0) ∷ [] = take-take (i + 1) n trail (omega arith) ∙ take_more trail i (pos 0) (omega arith) in
        let among : IsWithin (take i trail ++ get_or trail i (pos 0) ∷ []) (take n trail) = (let P : List ℤ → Type 0 = λ xs. IsWithin xs (take n trail) in subst P next (within-take (take n trail) (i + 1))) in
        subst T (sym same) (subst L (sym (taken-at trail n i (pos 0) h)) (subst R (sym (taken-at reasons n i Decision h))
        (reason-weaker clauses clauses store store decisions fewer assumed allowed (take i trail) (get_or trail i (pos 0)) (get_or reasons i Decision) (same_clauses clauses) (λ id clause is. is) (λ m is d. kept m (among m is) d)
        (λ m is d. still m (among m is) d)
        (are.each i (omega arith)))))

-- where the watched clauses are quiet and the others true, all are quiet
pub covered-quiet : (clauses long : List (List ℤ)) (trues : List ℤ) → ((c : ℕ) → c < length long → IsQuiet trues (clause_of long c))
    → ((k : ℕ) → k < length clauses → IsCovered long trues (clause_of clauses k)) → AreQuiet trues clauses
covered-quiet clauses long trues quiet covered =
    let Q : List ℤ → Type 0 = λ c. IsQuiet trues c in
    All-from_get_or Q clauses [] (λ k lt. by (clause_of clauses k) (covered k lt))
  where
    by : (clause : List ℤ) → IsCovered long trues clause → IsQuiet trues clause
    by clause (inl (c, lt, e)) = (let Q : List ℤ → Type 0 = λ xs. IsQuiet trues xs in subst Q e (quiet c lt))
    by clause (inr t) = inl t
