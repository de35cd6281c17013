use Rattle.std.proofs.Common.{◌≡◌, ℕ, ◌*◌}
use Rattle.hp_nibbles.specs.Bytes.{nibble_at}
use Rattle.hp_nibbles.specs.Written.{written_at}
use Rattle.hp_nibbles.proofs.digits.write_bytes.Given as goal

-- the bytes before j are written
abbrev pub invariant-loop-j : goal.invariant-loop-j
invariant-loop-j l = (i : ℕ) → nibble_at l.bytes i ≡ written_at l.fn.bytes (2 * l.from) (2 * l.j) l.v i
