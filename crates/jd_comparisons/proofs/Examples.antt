-- Raised patterns and counted words, worked by computation.
use Rattle.std.proofs.Common.{◌≡◌, refl}
use Rattle.hp_model.specs.declared.Mode.TheVariants.{Ones, Twos}
use Rattle.hp_ops.specs.declared.groups.Loop.TheVariants.{Decrement, Increment}
use Rattle.jd_comparisons.specs.Counts.{counted}
use Rattle.jd_comparisons.specs.Raised.{raised}

-- in four bits: the least number, -1, 0 and the greatest
least : raised 8 8 ≡ 0
least = refl

minus_one : raised 8 15 ≡ 7
minus_one = refl

zero_is_raised : raised 8 0 ≡ 8
zero_is_raised = refl

greatest : raised 8 7 ≡ 15
greatest = refl

below_zero : counted Decrement 4 Twos 0 ≡ 15
below_zero = refl

-- in one's complement the borrow and the carry come around
below_zero_in_ones : counted Decrement 4 Ones 0 ≡ 14
below_zero_in_ones = refl

above_minus_zero : counted Increment 4 Ones 15 ≡ 1
above_minus_zero = refl

past_the_greatest : counted Increment 4 Twos 7 ≡ 8
past_the_greatest = refl
