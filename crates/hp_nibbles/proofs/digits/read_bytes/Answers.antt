use Rattle.std.proofs.Common.{◌≡◌, ◌+◌, ◌*◌, ◌%◌, ◌^◌, ◌<◌, ◌≤◌, rules, get_or, arith, refl, lit≤}
use Rattle.std.proofs.Math.Nat.{pow-le-pow_right}
use Rattle.std.proofs.lemmas.Nat.{shl_whole}
use Rattle.hp_nibbles.proofs.Sums.{byte_step, byte_small, of_bytes}
use Rattle.hp_nibbles.proofs.digits.read_bytes.Goals as goal

byte : (c : goal.After-number-1) → get_or c.args.bytes.now (c.args.from + c.loop-j.j) 0 < 2 ^ 8
byte c = search rules

shifted : (c : goal.After-number-1) →
    get_or c.args.bytes.now (c.args.from + c.loop-j.j) 0 * 2 ^ (8 * c.loop-j.j) % 2 ^ 128 ≡ get_or c.args.bytes.now (c.args.from + c.loop-j.j) 0 * 2 ^ (8 * c.loop-j.j)
shifted c = shl_whole _ 8 (8 * c.loop-j.j) 128 (byte c) (omega arith)

small : (c : goal.After-number-1) → c.loop-j.number + get_or c.args.bytes.now (c.args.from + c.loop-j.j) 0 * 2 ^ (8 * c.loop-j.j) < 2 ^ (8 * (c.loop-j.j + 1))
small c = byte_small c.loop-j.number _ c.loop-j.j c.loop-j.invariant.small (byte c)

pub overflow_add-number-in-loop-j : goal.overflow_add-number-in-loop-j
overflow_add-number-in-loop-j c =
    let few : 8 * (c.loop-j.j + 1) ≤ 128 = omega arith in
    rw (shifted c) (omega (arith, small c, pow-le-pow_right {n = 2} (lit≤ tt) few))

pub loop-j-preserved : goal.loop-j-preserved
loop-j-preserved c = record {
  so_far = rw (shifted c, of_bytes c.loop-j.j) (byte_step c.args.bytes.now c.args.from c.loop-j.j c.loop-j.number _ refl c.loop-j.invariant.so_far);
  small = rw (shifted c) (small c);
}
