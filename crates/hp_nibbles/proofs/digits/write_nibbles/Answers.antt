use Rattle.std.proofs.Common.{◌≡◌, ℕ, ◌+◌, ◌-◌, ◌*◌, ◌/◌, arith, ap, ◌∙◌}
use Rattle.std.proofs.lemmas.Nat.{and_mask}
use Rattle.hp_nibbles.specs.Written.{written_at}
use Rattle.hp_nibbles.proofs.Halves.{nibble_first}
use Rattle.hp_nibbles.proofs.digits.write_nibbles.Goals as goal

pub returns-else-first-eq0 : goal.returns-else-first-eq0
returns-else-first-eq0 c =
    let place : 2 * (c.args.first / 2 + 1) ≡ c.args.first + 1 = omega arith in
    nibble_first _ _ _ c.args.first c.args.count c.args.v c.requires.some (c.put_nibble.ensures.here ∙ and_mask c.args.v 4) c.put_nibble.ensures.others
    (λ i. c.write_from_byte-else-first-eq0.ensures i ∙ ap (λ (k : ℕ). written_at c.put_nibble.new.bytes k (c.args.count - 1) (c.args.v / 16) i) place)
