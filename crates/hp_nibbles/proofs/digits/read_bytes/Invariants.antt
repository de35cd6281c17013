use Rattle.std.proofs.Common.{◌≡◌, ◌+◌, ◌*◌, ◌^◌, ◌<◌}
use Rattle.hp_model.specs.Memory.{nibble_sum}
use Rattle.hp_nibbles.specs.Bytes.{nibble_at}
use Rattle.hp_nibbles.proofs.digits.read_bytes.Given as goal

-- the bytes before j are summed
abbrev pub invariant-loop-j : goal.invariant-loop-j
invariant-loop-j l = record {
  so_far : l.number ≡ nibble_sum (λ i. nibble_at l.bytes (2 * l.from + i)) (2 * l.j);
  small : l.number < 2 ^ (8 * l.j);
}
