-- What the groups of operations answer, and where they put it.
use Rattle.std.specs.Prelude.{ℕ, ◌-◌, ◌^◌, ◌<◌, ◌≤◌, bit_and, bit_or, bit_xor}
use Rattle.hp_model.specs.declared.Answer.{Answer}
use Rattle.hp_model.specs.declared.Mode.{Mode}
use Rattle.hp_model.specs.State.{Data}
use Rattle.hp_model.specs.Words.{magnitude}
use Rattle.hp_model.specs.WordOperations.{plain, sum_of, difference_of, product_of, quotient_of, remainder_of, negation_of, absolute_of, root_of, ones_below, mask_left_pattern, mask_right_pattern, with_bit, without_bit}
use Rattle.hp_model.specs.DataStep.{answered, of_two, of_x}
use Rattle.hp_ops.specs.declared.groups.Arithmetic.{Arithmetic}
use Rattle.hp_ops.specs.declared.groups.Arithmetic.TheVariants as arithmetic
use Rattle.hp_ops.specs.declared.groups.Bits.{Bits}
use Rattle.hp_ops.specs.declared.groups.Bits.TheVariants as bits
use Rattle.hp_ops.specs.declared.groups.Logic.{Logic}
use Rattle.hp_ops.specs.declared.groups.Logic.TheVariants as logic

-- ---- arithmetic on Y and X, or on X alone

abbrev pub arithmetic_of : Arithmetic → ℕ → Mode → ℕ → ℕ → Answer
arithmetic_of arithmetic.Add w mode y x = sum_of w mode y x
arithmetic_of arithmetic.Subtract w mode y x = difference_of w mode y x
arithmetic_of arithmetic.Multiply w mode y x = product_of w mode y x
arithmetic_of arithmetic.Divide w mode y x = quotient_of w mode y x
arithmetic_of arithmetic.Remainder w mode y x = remainder_of w mode y x
arithmetic_of arithmetic.ChangeSign w mode y x = negation_of w mode x
arithmetic_of arithmetic.Absolute w mode y x = absolute_of w mode x
arithmetic_of arithmetic.SquareRoot w mode y x = root_of w mode x

abbrev pub put_arithmetic : Arithmetic → Answer → Data → Data
put_arithmetic arithmetic.ChangeSign = answered
put_arithmetic arithmetic.Absolute = of_x
put_arithmetic arithmetic.SquareRoot = of_x
put_arithmetic _ = of_two

-- a quotient and a remainder have a divisor that isn't 0
abbrev pub HasDivisor : Arithmetic → ℕ → Mode → ℕ → Type 0
HasDivisor arithmetic.Divide w mode x = 0 < magnitude w mode x
HasDivisor arithmetic.Remainder w mode x = 0 < magnitude w mode x
HasDivisor _ w mode x = Unit {0}

-- ---- masks, the count of ones, and single bits of Y

abbrev pub bits_of : Bits → ℕ → Mode → ℕ → ℕ → Answer
bits_of bits.MaskLeft w mode y x = plain (mask_left_pattern w (magnitude w mode x))
bits_of bits.MaskRight w mode y x = plain (mask_right_pattern (magnitude w mode x))
bits_of bits.CountOnes w mode y x = plain (ones_below w x)
bits_of bits.Set w mode y x = plain (with_bit y (magnitude w mode x))
bits_of bits.Clear w mode y x = plain (without_bit y (magnitude w mode x))
bits_of bits.Test w mode y x = plain y

abbrev pub put_bits : Bits → Answer → Data → Data
put_bits bits.MaskLeft = of_x
put_bits bits.MaskRight = of_x
put_bits bits.CountOnes = of_x
put_bits _ = of_two

-- a mask has at most as many ones as the word has bits, and a bit is one of the word's
abbrev pub HasPlace : Bits → ℕ → Mode → ℕ → Type 0
HasPlace bits.MaskLeft w mode x = magnitude w mode x ≤ w
HasPlace bits.MaskRight w mode x = magnitude w mode x ≤ w
HasPlace bits.Set w mode x = magnitude w mode x < w
HasPlace bits.Clear w mode x = magnitude w mode x < w
HasPlace _ w mode x = Unit {0}

-- ---- logic on each bit

abbrev pub logic_of : Logic → ℕ → ℕ → ℕ → Answer
logic_of logic.Not w y x = plain (2 ^ w - 1 - x)
logic_of logic.And w y x = plain (bit_and y x)
logic_of logic.Or w y x = plain (bit_or y x)
logic_of logic.Xor w y x = plain (bit_xor y x)

abbrev pub put_logic : Logic → Answer → Data → Data
put_logic logic.Not = of_x
put_logic _ = of_two
