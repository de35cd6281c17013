-- Bits that go round the end of a number.
use Rattle.std.specs.Prelude.{ℕ, ◌+◌, ◌-◌, ◌*◌, ◌/◌, ◌%◌, ◌^◌}

-- a number of so many bits after n places to the left: its n upper bits come to the low end
abbrev pub moved_round : ℕ → ℕ → ℕ → ℕ
moved_round bits n number = number % 2 ^ (bits - n) * 2 ^ n + number / 2 ^ (bits - n)
