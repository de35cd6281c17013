use Rattle.std.proofs.Common.{◌*◌, sym, arith, refl}
use Rattle.hp_display.proofs.Powers.{power_of_power, shifted_out}
use Rattle.hp_display.proofs.digits.above_place.Goals as goal

pub returns-then-shift-lt64 : goal.returns-then-shift-lt64
returns-then-shift-lt64 c = rw (power_of_power c.args.bits c.args.place) refl

pub returns-else-shift-lt64 : goal.returns-else-shift-lt64
returns-else-shift-lt64 c = rw (power_of_power c.args.bits c.args.place) (sym (shifted_out c.args.n (c.args.bits * c.args.place) (omega arith) (omega arith)))
