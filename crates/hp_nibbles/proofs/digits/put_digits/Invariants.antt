use Rattle.std.proofs.Common.{◌≡◌, ℕ, nat_lt, get_or, if◌then◌else◌}
use Rattle.hp_nibbles.specs.Written.{paired_byte}
use Rattle.hp_nibbles.proofs.digits.put_digits.Given as goal

-- the bytes before b are filled
abbrev pub invariant-loop-b : goal.invariant-loop-b
invariant-loop-b l = (k : ℕ) → get_or l.bytes k 0 ≡ (if nat_lt k l.b then paired_byte l.nibbles k else get_or l.fn.bytes k 0)
