-- Answers of literals, signs and bounds, worked by computation.
use Rattle.std.proofs.Common.{◌≡◌, ℕ, ◌==◌, Bool, true, false, Some, None, [], ◌∷◌, pos, neg_ℤ, refl}
use Rattle.hp_model.specs.declared.Mode.TheVariants.{Unsigned, Ones, Twos}
use Rattle.hp_model.specs.Words.{least, greatest}
use Rattle.hp_model.specs.WordOperations.{sum_of}
use Rattle.jd_circuit.specs.declared.literals.Lit.TheVariants.{Const, Var, Not}
use Rattle.jd_rows.specs.Answers.{above, answer_on, below, difference_out, is_false, overflows, shows_minus, told, with_sign}

-- variable 2 is true, the others are false
abbrev second : ℕ → Bool
second v = v == 2

-- 6 + 3 in four bits, where variable 1 stands for the carry
sum_on : answer_on second (record { pattern = Const true ∷ Var 1 ∷ Not 2 ∷ Var 2 ∷ []; carry = Some (Var 1); range = Some (Const true) }) ≡ sum_of 4 Twos 6 3
sum_on = refl

stays : told second None ≡ None
stays = refl

is_told : told second (Some (Not 1)) ≡ Some true
is_told = refl

-- of the top bits 0, 0 and 1 the sum is out of range, and of 0, 1 and 1 it isn't
past_the_greatest : overflows false false true ≡ true
past_the_greatest = refl

of_two_signs : overflows false true true ≡ false
of_two_signs = refl

minus_five : with_sign true 5 ≡ neg_ℤ (pos 5)
minus_five = refl

minus_zero : with_sign true 0 ≡ pos 0
minus_zero = refl

-- in one's complement a result of 0 has no minus
zero_has_no_minus : shows_minus Ones true 0 ≡ false
zero_has_no_minus = refl

one_has : shows_minus Ones true 1 ≡ true
one_has = refl

false_is : is_false (Const false) ≡ true
false_is = refl

variable_is_not : is_false (Var 1) ≡ false
variable_is_not = refl

-- the bounds of eight bits are those of the machine's words
lowest_of_twos : neg_ℤ (pos (below 8 Twos)) ≡ least 8 Twos
lowest_of_twos = refl

lowest_of_ones : neg_ℤ (pos (below 8 Ones)) ≡ least 8 Ones
lowest_of_ones = refl

lowest_of_unsigned : neg_ℤ (pos (below 8 Unsigned)) ≡ least 8 Unsigned
lowest_of_unsigned = refl

greatest_of_twos : pos (above 8 Twos) ≡ greatest 8 Twos
greatest_of_twos = refl

greatest_of_unsigned : pos (above 8 Unsigned) ≡ greatest 8 Unsigned
greatest_of_unsigned = refl

-- -8 - 1 in four bits is 7, out of range; 3 - 5 is out of range of numbers without a sign alone
below_the_least : difference_out 4 Twos 8 1 7 ≡ true
below_the_least = refl

borrow : difference_out 4 Unsigned 3 5 14 ≡ true
borrow = refl

negative : difference_out 4 Twos 3 5 14 ≡ false
negative = refl
