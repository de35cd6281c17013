-- The numbers at which parts are fixed, with one more.
use Rattle.std.proofs.Common.{◌≡◌, ℕ, zero, suc, ◌+◌, ◌<◌, true, false, Bool, List, [], ◌∷◌, refl, subst, arith}
use Rattle.std.specs.Prelude.{Option, Some, ◌&&◌, nat_lt, slice_set}
use Rattle.std.proofs.lemmas.Bool.Decides.{nat_tests}
use Rattle.jd_model.specs.Problems.{part_limit, is_fixed_below, are_fixed_from}

both-true : (a b : Bool) → (a && b) ≡ true → (a ≡ true) × (b ≡ true)
both-true true b e = (refl, e)
both-true false b e = absurd (cc)

-- what is fixed within the limits stays so
pub are_fixed-set : (size j : ℕ) (fs : List (Option ℕ)) (k at value : ℕ) → at ≡ j + k → are_fixed_from size j fs ≡ true → value < part_limit size at
    → are_fixed_from size j (slice_set fs k (Some value)) ≡ true
are_fixed-set size j [] k at value is within small = refl
are_fixed-set size j (f ∷ fs) zero at value is within small =
    let here : at ≡ j = omega arith in
    let less : value < part_limit size j = subst (λ i. value < part_limit size i) here small in
    let test : nat_lt value (part_limit size j) ≡ true = grind (arith, nat_tests) in
    rw test ((both-true (is_fixed_below (part_limit size j) f) (are_fixed_from size (suc j) fs) within).1)
are_fixed-set size j (f ∷ fs) (suc k) at value is within small =
    let both = both-true (is_fixed_below (part_limit size j) f) (are_fixed_from size (suc j) fs) within in
    rw (both.0) (are_fixed-set size (suc j) fs k at value (omega arith) both.1 small)
