-- What one number leaves of another, and what a square leaves.
use Rattle.std.specs.Prelude.{◌≡◌, ℕ, ◌+◌, ◌*◌, ◌<◌, ◌≤◌, Bool, true, false, not, nat_le, nat_lt, List, Some, drop, slice_get}
use Rattle.jd_circuit.specs.declared.literals.Lit.{Lit}
use Rattle.jd_circuit.specs.declared.literals.Lit.TheVariants.{Const, Var, Not}
use Rattle.jd_circuit.specs.Meaning.{lit_value}
use Rattle.jd_vectors.specs.Number.{bit, number}

-- a number is taken where it fits, and so much is left
pub record Taken (whole other : ℕ) (taken : Bool) (left : ℕ) : Type 0 where
  pub where_it_fits : taken ≡ nat_le other whole
  pub sum : left + bit taken * other ≡ whole

-- a number of which the part below P is known, and whether it goes on above that, beside one from which it is to be taken:
-- where it goes on it is too great, and where it doesn't, little enough will be left
pub record GoesOn (part P : ℕ) (above : Bool) (from whole : ℕ) : Type 0 where
  pub same : above ≡ false → whole ≡ part
  pub room : above ≡ false → from < whole + P
  pub more : above ≡ true → P ≤ whole
  pub less : above ≡ true → from < P

-- the greatest root whose square isn't above a number, and what that square leaves
pub record Rooted (whole root left : ℕ) : Type 0 where
  pub sum : root * root + left ≡ whole
  pub greatest : left ≤ 2 * root

-- each of the tails, the first of which has this place, says whether a literal of the list from the tail's place on is true
abbrev pub TellTails : (ℕ → Bool) → List Lit → ℕ → List Lit → Type 0
TellTails val ls from tails = (k : ℕ) (tail : Lit) → slice_get tails k ≡ Some tail → lit_value val tail ≡ nat_lt 0 (number val (drop (from + k) ls))

-- whether a literal is the constant 0
abbrev pub is_zero : Lit → Bool
is_zero (Const b) = not b
is_zero (Var v) = false
is_zero (Not v) = false
