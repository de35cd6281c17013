-- Numbers as words of digits. Leading zeros are allowed, and hexadecimal digits may be of either case.
use Rattle.std.specs.Prelude.{ℕ, ◌+◌, ◌-◌, ◌*◌, Bool, ◌&&◌, true, nat_lt, nat_le, if◌then◌else◌, List, [], ◌∷◌, length, Option, Some, None}
use Rattle.std.specs.Fmt.{digits}
use Rattle.std.specs.List.{list_all}

-- the value of a hexadecimal digit, in either case. A byte that is no digit has 16
abbrev pub digit_value : ℕ → ℕ
digit_value b =
    if nat_le 48 b && nat_lt b 58 then b - 48 else
    if nat_le 65 b && nat_lt b 71 then b - 55 else
    if nat_le 97 b && nat_lt b 103 then b - 87 else 16

-- the value of digits to a base, after a number
abbrev pub digits_value : ℕ → ℕ → List ℕ → ℕ
digits_value base n [] = n
digits_value base n (b ∷ word) = digits_value base (n * base + digit_value b) word

abbrev pub are_digits : ℕ → List ℕ → Bool
are_digits base word = list_all (λ b. nat_lt (digit_value b) base) word

-- the number of a word of digits to a base, at least one and at most so many
abbrev pub number_in : ℕ → ℕ → List ℕ → Option ℕ
number_in base most word =
    if nat_le 1 (length word) && nat_le (length word) most && are_digits base word
    then Some (digits_value base 0 word) else None

abbrev pub decimal_number : List ℕ → Option ℕ
decimal_number word = number_in 10 10 word

abbrev pub hexadecimal_number : List ℕ → Option ℕ
hexadecimal_number word = number_in 16 16 word

-- a number in hexadecimal digits, upper case, without leading zeros
abbrev pub hexadecimal : ℕ → List ℕ
hexadecimal n = digits 16 true n
