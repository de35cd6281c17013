-- A text that is written in two parts.
use Rattle.std.proofs.Common.{◌≡◌, ℕ, ◌+◌, ◌≤◌, min, List, ◌++◌, length, take, Option, sym, subst, ◌∙◌, arith, ◌<◌, ◌⊎◌, inl, inr, Ok, Err, OnOk}
use Rattle.std.specs.declared.result.Result.{Result}
use Rattle.std.proofs.lemmas.Bool.{cases_lt}
use Rattle.std.proofs.lemmas.List.{take-append-le, take_all}
use Rattle.std.proofs.Math.Seq.{take-append-add, take-append_seam}
use Rattle.std.specs.Io.KnownBytes.{Appends}
use Rattle.std.proofs.KnownBytes.{Appends-trans}

-- a front of the first part is a front of both
front-of-first : (n : ℕ) (first second : List ℕ) → (k : ℕ) × (take n first ≡ take k (first ++ second))
front-of-first n first second = by_size (cases_lt n (length first))
  where
    by_size : (n < length first) ⊎ (length first ≤ n) → (k : ℕ) × (take n first ≡ take k (first ++ second))
    by_size (inl inside) = (n, sym (take-append-le n first second (omega (arith, inside))))
    by_size (inr past) = (length first, take_all n first past ∙ sym (take-append_seam first second))

pub first-part : (written0 written : Option (List ℕ)) (n : ℕ) (first second : List ℕ) → Appends written0 written (take n first)
    → (k : ℕ) × Appends written0 written (take k (first ++ second))
first-part written0 written n first second put =
    let front = front-of-first n first second in (front.0, subst (Appends written0 written) front.1 put)

pub second-part : (written0 between written : Option (List ℕ)) (n : ℕ) (first second : List ℕ) → Appends written0 between first → Appends between written (take n second)
    → (k : ℕ) × Appends written0 written (take k (first ++ second))
second-part written0 between written n first second whole put =
    (length first + n, subst (Appends written0 written) (sym (take-append-add first second n)) (Appends-trans written0 between written first (take n second) whole put))

pub whole-of-both : {T E : Type 0} (r : Result T E) (written0 between written : Option (List ℕ)) (first second : List ℕ) → Appends written0 between first
    → OnOk r (Appends between written second) → OnOk r (Appends written0 written (first ++ second))
whole-of-both (Ok _) written0 between written first second one other = Appends-trans written0 between written first second one other
whole-of-both (Err _) written0 between written first second one other = tt
