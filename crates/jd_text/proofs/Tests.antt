-- Tests of both of two things, of numbers, of many numbers, and of what is found.
use Rattle.std.proofs.Common.{◌≡◌, ℕ, zero, suc, ◌+◌, ◌<◌, ◌≤◌, ◌&&◌, Bool, true, false, not, Option, Some, None, refl, ap, arith, nat_lt, nat_le}
use Rattle.std.specs.Prelude.{◌==◌, is_some}
use Rattle.std.proofs.lemmas.Bool.{eqb-true, false≢true}
use Rattle.std.proofs.lemmas.Bool.Decides.{nat_tests}

-- the first of two that hold
pub left-part : (a b : Bool) → (a && b) ≡ true → a ≡ true
left-part true b e = refl
left-part false b e = e

-- the second of two that hold
pub right-part : (a b : Bool) → (a && b) ≡ true → b ≡ true
right-part true b e = e
right-part false b e = absurd (grind arith)

-- what does not hold is false
pub is_false : (a : Bool) → not a ≡ true → a ≡ false
is_false false h = refl
is_false true h = absurd (grind arith)

-- a test of each of so many numbers from one on
abbrev pub passes_from : (ℕ → Bool) → ℕ → ℕ → Bool
passes_from p first zero = true
passes_from p first (suc n) = p first && passes_from p (suc first) n

-- a test that all these numbers pass is passed by each
pub passes_at : (p : ℕ → Bool) (first n k : ℕ) → passes_from p first n ≡ true → first ≤ k → k < first + n → p k ≡ true
passes_at p first zero k h low high = absurd (omega arith)
passes_at p first (suc n) k h low high = grind (arith, nat_tests, passes_at p (suc first) n k)

-- tests of numbers in order
pub test-less : (m n : ℕ) → m < n → nat_lt m n ≡ true
test-less m n h = grind (arith, nat_tests)

pub test-le : (m n : ℕ) → m ≤ n → nat_le m n ≡ true
test-le m n h = grind (arith, nat_tests)

-- whether this number is found
abbrev pub is_found : Option ℕ → ℕ → Bool
is_found None n = false
is_found (Some m) n = m == n

-- what is found
pub found-is : (o : Option ℕ) (n : ℕ) → is_found o n ≡ true → o ≡ Some n
found-is None n h = absurd (false≢true h)
found-is (Some m) n h = ap (λ k. Some k) (eqb-true m n h)

-- what is not found
pub none-is : {A : Type 0} (o : Option A) → not (is_some o) ≡ true → o ≡ None
none-is None h = refl
none-is (Some a) h = absurd (false≢true h)
