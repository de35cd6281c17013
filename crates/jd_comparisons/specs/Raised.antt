-- Patterns by which values are compared as whole numbers.
use Rattle.std.specs.Prelude.{ℕ, ◌+◌, ◌-◌, nat_lt, if◌then◌else◌}

-- a pattern with its top bit turned, where `half` is what the top bit counts
abbrev pub raised : ℕ → ℕ → ℕ
raised half p = if nat_lt p half then p + half else p - half
