-- Words: how a pattern of w bits is read as a number, and back.
use Rattle.std.specs.Prelude.{ℕ, suc, ◌+◌, ◌-◌, ◌*◌, ◌/◌, ◌%◌, ◌^◌, List, [], ◌∷◌, ℤ, pos, negsuc, ◌-ℤ◌, neg_ℤ, nat_abs, int_le, Bool, false, ◌&&◌, ◌==◌, nat_lt, if◌then◌else◌}
use Rattle.hp_model.specs.declared.Mode.{Mode}
use Rattle.hp_model.specs.declared.Mode.TheVariants.{Unsigned, Ones, Twos}

-- the number that a pattern of w bits means
abbrev pub value : ℕ → Mode → ℕ → ℤ
value w Unsigned p = pos p
value w Ones p = if nat_lt p (2 ^ (w - 1)) then pos p else pos p -ℤ pos (2 ^ w - 1)
value w Twos p = if nat_lt p (2 ^ (w - 1)) then pos p else pos p -ℤ pos (2 ^ w)

-- the pattern of w bits for a number, whose higher part is lost
abbrev pub low : ℕ → Mode → ℤ → ℕ
low w mode (pos n) = n % 2 ^ w
low w Ones (negsuc n) = 2 ^ w - 1 - suc n % 2 ^ w
low w _ (negsuc n) = (2 ^ w - suc n % 2 ^ w) % 2 ^ w

-- the least and the greatest number of w bits
abbrev pub least : ℕ → Mode → ℤ
least w Unsigned = pos 0
least w Ones = neg_ℤ (pos (2 ^ (w - 1) - 1))
least w Twos = neg_ℤ (pos (2 ^ (w - 1)))

abbrev pub greatest : ℕ → Mode → ℤ
greatest w Unsigned = pos (2 ^ w - 1)
greatest w _ = pos (2 ^ (w - 1) - 1)

-- whether a number is in the range of the word
abbrev pub fits : ℕ → Mode → ℤ → Bool
fits w mode v = int_le (least w mode) v && int_le v (greatest w mode)

-- the absolute value of what a pattern means
abbrev pub magnitude : ℕ → Mode → ℕ → ℕ
magnitude w mode p = nat_abs (value w mode p)

-- whether a pattern is -0 of one's complement
abbrev pub is_negative_zero : ℕ → Mode → ℕ → Bool
is_negative_zero w Ones p = p == 2 ^ w - 1
is_negative_zero w _ p = false

-- whether bit k of a number is 1
abbrev pub bit : ℕ → ℕ → Bool
bit n k = n / 2 ^ k % 2 == 1

-- the number whose bits are these, lowest first
abbrev pub number_of_bits : List Bool → ℕ
number_of_bits [] = 0
number_of_bits (b ∷ bs) = (if b then 1 else 0) + 2 * number_of_bits bs
