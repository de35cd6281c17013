-- Numbers by sign and magnitude, and numbers as two words.
use Rattle.std.specs.Prelude.{ℕ, ◌/◌, ◌%◌, ◌^◌, ℤ, pos, neg_ℤ, if◌then◌else◌}
use Rattle.hp_double.specs.declared.signed.Signed.{Signed}

-- the number that a sign and a magnitude mean
abbrev pub number : Signed → ℤ
number v = if v.negative then neg_ℤ (pos v.magnitude) else pos v.magnitude

-- the upper and the lower word of a number
abbrev pub two_words : ℕ → ℕ → ℕ × ℕ
two_words w n = (n / 2 ^ w, n % 2 ^ w)
