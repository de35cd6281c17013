use Rattle.std.proofs.Common.{◌≡◌, ℕ, ◌*◌, ◌%◌, ◌^◌, ◌<◌, arith, subst}
use Rattle.std.proofs.lemmas.Nat.{one_shl, or_lt, pow_below}
use Rattle.hp_bits.proofs.SingleBits.{set_is}
use Rattle.hp_bits.proofs.single_bits.set_bit.Goals as goal

pub returns-clause-value : goal.returns-clause-value
returns-clause-value c =
    let told = c.in_ok-n.ensures in
    let one : 1 * 2 ^ c.in_ok-n.n % 2 ^ 64 ≡ 2 ^ c.in_ok-n.n = one_shl c.in_ok-n.n 64 (omega (arith, told.bound, c.args.x.size.at_most_64)) in
    rw (one, ← told.value) (set_is c.args.y.pattern c.in_ok-n.n)

pub returns-clause-bound : goal.returns-clause-bound
returns-clause-bound c =
    let told = c.in_ok-n.ensures in
    let one : 1 * 2 ^ c.in_ok-n.n % 2 ^ 64 ≡ 2 ^ c.in_ok-n.n = one_shl c.in_ok-n.n 64 (omega (arith, told.bound, c.args.x.size.at_most_64)) in
    rw one (or_lt c.args.x.size.bits c.args.y.pattern (2 ^ c.in_ok-n.n) (subst (λ (w : ℕ). c.args.y.pattern < 2 ^ w) c.requires.alike.size c.args.y.in_range) (pow_below _ _ told.bound))
