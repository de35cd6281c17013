-- The root of the model is what a root and a rest give.
use Rattle.std.proofs.Common.{◌≡◌, ℕ, ◌+◌, ◌*◌, ◌^◌, ◌≤◌, ◌<◌, Bool, true, false, not, nat_le, nat_lt, eqb, refl, arith}
use Rattle.std.proofs.lemmas.Bool.Decides.{nat_tests}
use Rattle.std.proofs.Math.Nat.{mul-le-mul}
use Rattle.hp_model.specs.WordOperations.{root}
use Rattle.hp_model.specs.Laws.{IsRoot}
use Rattle.hp_model.proofs.Roots.{root-is}
use Rattle.jd_muldiv.specs.Steps.{Rooted}

not_above : (r s n : ℕ) → n < (r + 1) * (r + 1) → s * s ≤ n → s ≤ r
not_above r s n above below = by_test (nat_le s r) refl
  where
    by_test : (t : Bool) → nat_le s r ≡ t → s ≤ r
    by_test true e = grind (arith, nat_tests, e)
    by_test false e = let greater : r + 1 ≤ s = grind (arith, nat_tests, e) in absurd (omega (arith, mul-le-mul greater greater))

pub root_is : (n r left : ℕ) → n < 2 ^ 64 → Rooted n r left → r ≡ root n
root_is n r left small i =
    let model : IsRoot n (root n) = root-is n small in
    let low : r * r ≤ n = omega (arith, i.sum) in
    let high : n < (r + 1) * (r + 1) = omega (arith, i.sum, i.greatest) in
    let a : root n ≤ r = not_above r (root n) n high model.square_fits in
    let b : r ≤ root n = not_above (root n) r n model.next_is_greater low in
    omega arith

pub root_carry : (n r left : ℕ) → Rooted n r left → nat_lt (r * r) n ≡ not (eqb left 0)
root_carry n r left i = grind (arith, nat_tests, i.sum)
