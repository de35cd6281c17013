-- Comparisons of numbers as tests.
use Rattle.std.proofs.Common.{◌≡◌, ℕ, ◌<◌, ◌≤◌, ◌==◌, nat_lt, true, false, arith}
use Rattle.std.proofs.lemmas.Bool.Decides.{nat_tests}

pub is_lt : (a b : ℕ) → a < b → nat_lt a b ≡ true
is_lt a b h = grind (arith, nat_tests)

pub not_lt : (a b : ℕ) → b ≤ a → nat_lt a b ≡ false
not_lt a b h = grind (arith, nat_tests)

pub is_eq : (a b : ℕ) → a ≡ b → (a == b) ≡ true
is_eq a b h = grind (arith, nat_tests)

pub not_eq : (a b : ℕ) → (a ≡ b → ⊥) → (a == b) ≡ false
not_eq a b h = grind (arith, nat_tests)

pub lt_tells : (a b : ℕ) → nat_lt a b ≡ true → a < b
lt_tells a b e = grind (arith, nat_tests)

pub ge_tells : (a b : ℕ) → nat_lt a b ≡ false → b ≤ a
ge_tells a b e = grind (arith, nat_tests)
