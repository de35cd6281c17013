-- Counts that fit their words.
use Rattle.std.proofs.Common.{◌≡◌, ℕ, zero, suc, ◌%◌, ◌^◌, ◌≤◌, Bool, true, false, ap, ◌∙◌, arith, lit≤}
use Rattle.std.proofs.Math.Nat.{mod-eq_of_lt}
use Rattle.hp_model.specs.Words.{bit}
use Rattle.hp_model.specs.WordOperations.{bit_number, ones_below}
use Rattle.hp_bits.proofs.Lengths.{below_power}

one : (b : Bool) → bit_number b ≤ 1
one true = lit≤ tt
one false = lit≤ tt

pub ones_small : (k x : ℕ) → ones_below k x ≤ k
ones_small zero x = lit≤ tt
ones_small (suc k) x = omega (arith, one (bit x k), ones_small k x)

pub ones_kept : (w n x r : ℕ) → n ≡ w → r ≡ ones_below w x % 2 ^ n → r ≡ ones_below w x
ones_kept w n x r e f = f ∙ ap (λ k. ones_below w x % 2 ^ k) e ∙ mod-eq_of_lt (omega (arith, ones_small w x, below_power w))

pub places_kept : (w m q r : ℕ) → m ≡ q → q ≤ w → w ≤ 64 → r ≡ m % 2 ^ 8 → r ≡ q
places_kept w m q r e h i f = f ∙ mod-eq_of_lt (omega arith) ∙ e
