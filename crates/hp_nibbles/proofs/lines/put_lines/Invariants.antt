use Rattle.std.proofs.Common.{◌≡◌, ℕ, get_or}
use Rattle.hp_nibbles.specs.Edits.{byte_with_first_lines}
use Rattle.hp_nibbles.proofs.lines.put_lines.Given as goal

-- the first i lines are written
abbrev pub invariant-loop-i : goal.invariant-loop-i
invariant-loop-i l = (b : ℕ) → get_or l.bytes b 0 ≡ byte_with_first_lines l.end l.i l.fn.bytes l.codes b
