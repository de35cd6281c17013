-- The root is the greatest number whose square is at most a number.
use Rattle.std.proofs.Common.{◌≡◌, ℕ, zero, suc, ◌+◌, ◌*◌, ◌^◌, ◌≤◌, ◌<◌, Bool, true, false, nat_le, refl, arith}
use Rattle.std.proofs.lemmas.Bool.Decides.{nat_tests}
use Rattle.std.proofs.Math.Nat.{pow-suc}
use Rattle.hp_model.specs.WordOperations.{root, root_from}
use Rattle.hp_model.specs.Laws.{IsRoot}

-- the search with k bits left finds it where it lies below its start plus 2 ^ k
root_from-is : (k r n : ℕ) → r * r ≤ n → n < (r + 2 ^ k) * (r + 2 ^ k) → IsRoot n (root_from k r n)
root_from-is zero r n low high = record { square_fits = low; next_is_greater = omega (arith, high) }
root_from-is (suc k) r n low high = by_test (nat_le ((r + 2 ^ k) * (r + 2 ^ k)) n) refl
    (λ fits. root_from-is k (r + 2 ^ k) n fits (let e : r + 2 ^ k + 2 ^ k ≡ r + 2 ^ suc k = omega (arith, pow-suc 2 k) in rw e high))
    (λ less. root_from-is k r n low less)
  where
    by_test : (t : Bool) → nat_le ((r + 2 ^ k) * (r + 2 ^ k)) n ≡ t
        → ((r + 2 ^ k) * (r + 2 ^ k) ≤ n → IsRoot n (root_from k (r + 2 ^ k) n))
        → (n < (r + 2 ^ k) * (r + 2 ^ k) → IsRoot n (root_from k r n))
        → IsRoot n (root_from (suc k) r n)
    by_test true e upper lower = rw e (upper (grind (arith, nat_tests, e)))
    by_test false e upper lower = rw e (lower (grind (arith, nat_tests, e)))

pub root-is : (n : ℕ) → n < 2 ^ 64 → IsRoot n (root n)
root-is n h = root_from-is 32 0 n (omega arith) h
