use Rattle.std.proofs.Common.{◌≡◌, ℕ, ◌+◌, ◌-◌, ◌*◌, ◌/◌, ◌%◌, ◌^◌, arith, ap, sym, ◌∙◌}
use Rattle.std.proofs.lemmas.Nat.{and_mask}
use Rattle.hp_nibbles.specs.Bytes.{nibble_at}
use Rattle.hp_nibbles.specs.Written.{written_at}
use Rattle.hp_nibbles.proofs.Sums.{sixteen}
use Rattle.hp_nibbles.proofs.Halves.{nibble_step}
use Rattle.hp_nibbles.proofs.digits.write_from_byte.Goals as goal

pub returns-then-count-eq1 : goal.returns-then-count-eq1
returns-then-count-eq1 c =
    let whole : 2 * (c.args.count / 2) ≡ c.args.count - 1 = omega arith in
    let place : 2 * c.args.from + (c.args.count - 1) ≡ 2 * c.args.from + c.args.count - 1 = omega arith in
    let count : c.args.count - 1 + 1 ≡ c.args.count = omega arith in
    let digit : nibble_at c.put_nibble.new.bytes (2 * c.args.from + (c.args.count - 1)) ≡ c.args.v / 16 ^ (c.args.count - 1) % 16 =
    ap (nibble_at c.put_nibble.new.bytes) place ∙ c.put_nibble.ensures.here ∙ and_mask (c.args.v / 2 ^ (4 * (c.args.count - 1))) 4
    ∙ ap (λ (p : ℕ). c.args.v / p % 16) (sym (sixteen (c.args.count - 1))) in
    λ i. nibble_step c.args.bytes.now c.write_bytes.new.bytes c.put_nibble.new.bytes (2 * c.args.from) (c.args.count - 1) c.args.v
    (λ j. c.write_bytes.ensures j ∙ ap (λ (n : ℕ). written_at c.args.bytes.now (2 * c.args.from) n c.args.v j) whole)
    digit (λ j apart. c.put_nibble.ensures.others j (λ e. apart (e ∙ sym place))) i
    ∙ ap (λ (n : ℕ). written_at c.args.bytes.now (2 * c.args.from) n c.args.v i) count
