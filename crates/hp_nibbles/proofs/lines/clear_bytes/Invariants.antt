use Rattle.std.proofs.Common.{◌≡◌, ℕ, get_or}
use Rattle.hp_nibbles.specs.Edits.{byte_cleared}
use Rattle.hp_nibbles.proofs.lines.clear_bytes.Given as goal

-- the bytes before b are cleared
abbrev pub invariant-loop-b : goal.invariant-loop-b
invariant-loop-b l = (k : ℕ) → get_or l.bytes k 0 ≡ byte_cleared l.fn.bytes l.from l.b k
