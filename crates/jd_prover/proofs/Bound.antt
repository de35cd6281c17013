-- A search over the inputs' values adds at most one line for each choice of them, whatever the order of its decisions.
use Rattle.std.proofs.Common.{◌≡◌, ◌⊎◌, inl, inr, ℕ, zero, suc, ◌+◌, ◌^◌, ◌<◌, ◌≤◌, ℤ, pos, Bool, true, false, List, [], ◌∷◌, ◌++◌, take, length, get_or, refl, ap, subst, arith}
use Rattle.std.specs.Prelude.{sum_by, if◌then◌else◌}
use Rattle.std.proofs.lemmas.Bool.{cases_lt}
use Rattle.std.proofs.lemmas.Grind.{pow_more}
use Rattle.std.proofs.lemmas.List.Sums.{sum_by-cons, sum_by_push}
use Rattle.std.proofs.lemmas.Nat.{pow_pos}
use Rattle.std.proofs.Math.Pow.{pow_mono}
use Rattle.jd_proving.specs.Propagation.{has_value}
use Rattle.jd_propagate.specs.Passing.{Extends}
use Rattle.jd_propagate.proofs.Extensions.{front-stays, take-beyond}
use Rattle.jd_prover.specs.Room.{open_inputs, room_below, room}

-- what has a value keeps one
abbrev pub KeepsValues : List ℤ → List ℤ → Type 0
KeepsValues old new = (l : ℤ) → has_value old l ≡ true → has_value new l ≡ true

no_more : (b c : Bool) → (b ≡ true → c ≡ true) → (if c then 0 else 1) ≤ (if b then 0 else 1)
no_more true true keeps = omega arith
no_more true false keeps = let e = keeps refl in cc
no_more false true keeps = omega arith
no_more false false keeps = omega arith

one_less : (b c : Bool) → b ≡ false → c ≡ true → (if c then 0 else 1) + 1 ≤ (if b then 0 else 1)
one_less true c e f = cc
one_less false true e f = omega arith
one_less false false e f = cc

open-fewer : (old new : List ℤ) → KeepsValues old new → (n : ℕ) → open_inputs new n ≤ open_inputs old n
open-fewer old new keeps zero = omega arith
open-fewer old new keeps (suc n) =
    let rest = open-fewer old new keeps n in
    let one = no_more (has_value old (pos (suc n))) (has_value new (pos (suc n))) (keeps (pos (suc n))) in
    omega arith

-- an input that got a value
open-valued : (old new : List ℤ) (v : ℕ) → KeepsValues old new → 0 < v → has_value old (pos v) ≡ false → has_value new (pos v) ≡ true
    → (n : ℕ) → v ≤ n → open_inputs new n + 1 ≤ open_inputs old n
open-valued old new v keeps above none valued zero within = absurd (omega arith)
open-valued old new v keeps above none valued (suc n) within = by (cases_lt v (suc n)) (open-valued old new v keeps above none valued n)
  where
    by : (v < suc n) ⊎ (suc n ≤ v) → (v ≤ n → open_inputs new n + 1 ≤ open_inputs old n) → open_inputs new (suc n) + 1 ≤ open_inputs old (suc n)
    by (inl lt) rest =
        let r = rest (omega arith) in
        let one = no_more (has_value old (pos (suc n))) (has_value new (pos (suc n))) (keeps (pos (suc n))) in
        omega arith
    by (inr ge) rest =
        let e : v ≡ suc n = omega arith in
        let N : ℕ → Type 0 = λ k. has_value old (pos k) ≡ false in
        let V : ℕ → Type 0 = λ k. has_value new (pos k) ≡ true in
        let one = one_less (has_value old (pos (suc n))) (has_value new (pos (suc n))) (subst N e none) (subst V e valued) in
        let r = open-fewer old new keeps n in
        omega arith

open-few : (trues : List ℤ) (n : ℕ) → open_inputs trues n ≤ n
open-few trues zero = omega arith
open-few trues (suc n) =
    let rest = open-few trues n in
    let one = no_more false (has_value trues (pos (suc n))) (λ e. cc) in
    omega arith

-- trails that are the same up to each decision
beside-same : (inputs : ℕ) (xs ys : List ℤ) (limits : List ℕ) → ((j : ℕ) → j < length limits → take (get_or limits j 0 + 1) xs ≡ take (get_or limits j 0 + 1) ys)
    → sum_by (λ n. room_below inputs (take (n + 1) xs)) limits ≡ sum_by (λ n. room_below inputs (take (n + 1) ys)) limits
beside-same inputs xs ys [] same = refl
beside-same inputs xs ys (n ∷ ns) same =
    let a = sum_by-cons (λ n. room_below inputs (take (n + 1) xs)) n ns in
    let b = sum_by-cons (λ n. room_below inputs (take (n + 1) ys)) n ns in
    let first = ap (λ zs. room_below inputs zs) (same 0 (omega arith)) in
    let rest = beside-same inputs xs ys ns (λ j lt. same (suc j) (omega arith)) in
    omega arith

-- literals more
pub room-grown : (inputs : ℕ) (old new : List ℤ) (limits : List ℕ) → Extends old new → KeepsValues old new → ((j : ℕ) → j < length limits → get_or limits j 0 < length old)
    → room inputs new limits ≤ room inputs old limits
room-grown inputs old new limits grows keeps below =
    let same = beside-same inputs new old limits (λ j lt. front-stays old new (get_or limits j 0 + 1) (let b = below j lt in omega arith) grows) in
    let fewer : room_below inputs new ≤ room_below inputs old = pow_mono (open-fewer old new keeps inputs) in
    omega arith

-- a decision on an input without a value
pub room-decided : (inputs v : ℕ) (old new : List ℤ) (limits : List ℕ) → Extends old new → length new ≡ length old + 1 → KeepsValues old new → ((j : ℕ) → j < length limits → get_or limits j 0 < length old)
    → 0 < v → v ≤ inputs → has_value old (pos v) ≡ false → has_value new (pos v) ≡ true → room inputs new (limits ++ length old ∷ []) ≤ room inputs old limits
room-decided inputs v old new limits grows one keeps below above within none valued =
    let same = beside-same inputs new old limits (λ j lt. front-stays old new (get_or limits j 0 + 1) (let b = below j lt in omega arith) grows) in
    let push = sum_by_push (λ n. room_below inputs (take (n + 1) new)) limits (length old) in
    let last = ap (λ zs. room_below inputs zs) (take-beyond new (length old + 1) (omega arith)) in
    let twice = pow_more 2 (open_inputs new inputs) in
    let halves : 2 ^ (open_inputs new inputs + 1) ≤ room_below inputs old = pow_mono (open-valued old new v keeps above none valued inputs within) in
    omega arith

-- a line, and the other branch of the last decision
pub room-refuted : (inputs limit : ℕ) (old new : List ℤ) (limits : List ℕ) → KeepsValues (take (limit + 1) old) new
    → ((j : ℕ) → j < length limits → take (get_or limits j 0 + 1) new ≡ take (get_or limits j 0 + 1) old) → room inputs new limits + 1 ≤ room inputs old (limits ++ limit ∷ [])
room-refuted inputs limit old new limits keeps front =
    let same = beside-same inputs new old limits front in
    let push = sum_by_push (λ n. room_below inputs (take (n + 1) old)) limits limit in
    let some = pow_pos (open_inputs old inputs) in
    let fewer : room_below inputs new ≤ room_below inputs (take (limit + 1) old) = pow_mono (open-fewer (take (limit + 1) old) new keeps inputs) in
    omega arith

-- the search begins with room for at most a line each choice of values
pub room-begun : (inputs : ℕ) (trail : List ℤ) → room inputs trail [] ≤ 2 ^ inputs
room-begun inputs trail = let few : room_below inputs trail ≤ 2 ^ inputs = pow_mono (open-few trail inputs) in omega arith

-- a budget that was spent is too small to try all
pub budget_small : (inputs lines : ℕ) (trail : List ℤ) (limits : List ℕ) → lines + room inputs trail limits ≤ 2 ^ inputs → lines < 2 ^ (inputs + 1)
budget_small inputs lines trail limits h =
    let some = pow_pos (open_inputs trail inputs) in
    let le : inputs ≤ inputs + 1 = omega arith in
    let more : 2 ^ inputs ≤ 2 ^ (inputs + 1) = pow_mono le in
    omega arith
