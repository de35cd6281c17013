use Rattle.std.proofs.Common.{◌≡◌, ◌-◌, ◌*◌, ◌%◌, ◌^◌, ◌<◌, arith, lit≤}
use Rattle.std.proofs.Math.Nat.{mod-eq_of_lt, pow-le-pow_right}
use Rattle.std.proofs.lemmas.Nat.{leading_le}
use lib.Count.{count_leading_zeros}
use Rattle.hp_model.specs.WordOperations.{left_shifts}
use Rattle.hp_bits.proofs.Lengths.{shifts_are, below_power}
use Rattle.hp_bits.proofs.logic.left_justify.Goals as goal

pub overflow_sub-shifts-2 : goal.overflow_sub-shifts-2
overflow_sub-shifts-2 c = (shifts_are c.args.x.size.bits c.args.x.pattern c.if-x-eq0.false c.args.x.in_range c.args.x.size.at_most_64).0

count : (c : goal.After-struct_known-4-1) → count_leading_zeros 64 c.args.x.pattern - (64 - c.args.x.size.bits) ≡ left_shifts c.args.x.size.bits c.args.x.pattern
count c = (shifts_are c.args.x.size.bits c.args.x.pattern c.if-x-eq0.false c.args.x.in_range c.args.x.size.at_most_64).1

small : (c : goal.After-struct_known-4-1) → c.args.x.pattern * 2 ^ left_shifts c.args.x.size.bits c.args.x.pattern < 2 ^ c.args.x.size.bits
small c = (shifts_are c.args.x.size.bits c.args.x.pattern c.if-x-eq0.false c.args.x.in_range c.args.x.size.at_most_64).2

word : (c : goal.After-struct_known-4-1) → c.args.x.pattern * 2 ^ left_shifts c.args.x.size.bits c.args.x.pattern % 2 ^ 64 ≡ c.args.x.pattern * 2 ^ left_shifts c.args.x.size.bits c.args.x.pattern
word c = mod-eq_of_lt (omega (arith, small c, pow-le-pow_right {n = 2} (lit≤ tt) c.args.x.size.at_most_64))

pub returns-clause-word : goal.returns-clause-word
returns-clause-word c = rw (count c) (word c)

pub returns-clause-count : goal.returns-clause-count
returns-clause-count c = count c

pub returns-clause-word_bound : goal.returns-clause-word_bound
returns-clause-word_bound c = rw (count c, word c) (small c)

pub returns-clause-count_bound : goal.returns-clause-count_bound
returns-clause-count_bound c = omega (arith, leading_le 64 c.args.x.pattern, below_power c.args.x.size.bits, c.args.x.size.at_most_64)
