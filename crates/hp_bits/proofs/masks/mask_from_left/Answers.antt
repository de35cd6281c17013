use Rattle.std.proofs.Common.{◌≡◌, ℕ, ◌+◌, ◌-◌, ◌*◌, ◌/◌, ◌^◌, ◌≤◌, arith, ap, ◌∙◌, refl}
use Rattle.std.proofs.lemmas.Nat.{pow-add, shl-shr, pow_pos}
use Rattle.hp_bits.proofs.masks.mask_from_left.Goals as goal

quotient : (w n : ℕ) → n ≤ w → 2 ^ w / 2 ^ n ≡ 2 ^ (w - n)
quotient w n inside =
    let split : w ≡ (w - n) + n = omega arith in
    let power : 2 ^ w ≡ 2 ^ (w - n) * 2 ^ n = ap (λ (k : ℕ). 2 ^ k) split ∙ pow-add 2 (w - n) n in
    ap (λ (v : ℕ). v / 2 ^ n) power ∙ shl-shr (2 ^ (w - n)) n

pub returns-clause-value : goal.returns-clause-value
returns-clause-value c = rw (c.patterns-patterns.ensures.value, quotient _ _ c.requires) refl

pub returns-clause-bound : goal.returns-clause-bound
returns-clause-bound c = rw (c.patterns-patterns.ensures.value, quotient _ _ c.requires) (omega (arith, pow_pos (c.args.size.bits - c.args.n), pow_pos c.args.size.bits))
