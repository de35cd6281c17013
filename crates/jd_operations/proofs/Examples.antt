-- What groups of operations answer and where it goes, worked by computation.
use Rattle.std.proofs.Common.{◌≡◌, false, true, Some, [], ◌∷◌, refl, arith}
use Rattle.hp_model.specs.declared.Mode.TheVariants.{Ones, Twos, Unsigned}
use Rattle.hp_model.specs.Operations as ops
use Rattle.hp_model.specs.State.{Data}
use Rattle.hp_model.specs.WordOperations.{plain}
use Rattle.hp_ops.specs.declared.groups.Arithmetic.TheVariants as arithmetic
use Rattle.hp_ops.specs.declared.groups.Bits.TheVariants as bits
use Rattle.hp_ops.specs.declared.groups.Logic.TheVariants as logic
use Rattle.jd_operations.specs.Answers.{HasDivisor, HasPlace, arithmetic_of, bits_of, logic_of, put_arithmetic, put_bits, put_logic}
use Rattle.jd_operations.specs.Done.{IsPossible}

-- four bits
abbrev before : Data
before = record { x = 1; y = 7; z = 3; t = 4; last = 0; index = 0; flags = false ∷ false ∷ false ∷ false ∷ true ∷ false ∷ []; nibbles = [] }

-- 7 + 1 is past the greatest number of two's complement
sum_is : arithmetic_of arithmetic.Add 4 Twos 7 1 ≡ record { pattern = 8; carry = Some false; range = Some true }
sum_is = refl

sum_is_put : put_arithmetic arithmetic.Add (arithmetic_of arithmetic.Add 4 Twos 7 1) before
    ≡ record { x = 8; y = 3; z = 4; t = 4; last = 1; index = 0; flags = false ∷ false ∷ false ∷ false ∷ false ∷ true ∷ []; nibbles = [] }
sum_is_put = refl

-- CHS leaves LAST X and the stack as they were
sign_is_put : put_arithmetic arithmetic.ChangeSign (arithmetic_of arithmetic.ChangeSign 4 Twos 7 1) before
    ≡ record { x = 15; y = 7; z = 3; t = 4; last = 0; index = 0; flags = false ∷ false ∷ false ∷ false ∷ true ∷ false ∷ []; nibbles = [] }
sign_is_put = refl

root_is : arithmetic_of arithmetic.SquareRoot 4 Unsigned 0 10 ≡ record { pattern = 3; carry = Some true; range = Some false }
root_is = refl

divisor_isnt_zero : HasDivisor arithmetic.Divide 4 Ones 14
divisor_isnt_zero = omega arith

mask_is : bits_of bits.MaskLeft 4 Unsigned 0 3 ≡ plain 14
mask_is = refl

count_is : bits_of bits.CountOnes 4 Unsigned 0 11 ≡ plain 3
count_is = refl

bit_is_cleared : bits_of bits.Clear 4 Unsigned 7 1 ≡ plain 5
bit_is_cleared = refl

-- B? leaves the word in Y, which the drop of the stack puts into X
tested_word : put_bits bits.Test (bits_of bits.Test 4 Unsigned 7 1) before
    ≡ record { x = 7; y = 3; z = 4; t = 4; last = 1; index = 0; flags = false ∷ false ∷ false ∷ false ∷ true ∷ false ∷ []; nibbles = [] }
tested_word = refl

mask_of_the_word : HasPlace bits.MaskRight 4 Unsigned 4
mask_of_the_word = omega arith

others : logic_of logic.Not 4 7 1 ≡ plain 14
others = refl

exclusive : logic_of logic.Xor 4 7 1 ≡ plain 6
exclusive = refl

one_operand : put_logic logic.Not (logic_of logic.Not 4 7 1) before
    ≡ record { x = 14; y = 7; z = 3; t = 4; last = 1; index = 0; flags = false ∷ false ∷ false ∷ false ∷ true ∷ false ∷ []; nibbles = [] }
one_operand = refl

-- of eight nibbles, there are two registers of 13 to 16 bits
second_register : IsPossible 16 8 (ops.store (ops.register 1)) []
second_register = omega arith
