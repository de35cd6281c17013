-- The mark of a pending shift.
use Rattle.std.specs.Prelude.{ℕ, List, [], codes}
use Rattle.hp_keys.specs.declared.commands.Shift.{Shift}
use Rattle.hp_keys.specs.declared.commands.Shift.TheVariants as shift

abbrev pub shift_mark : Shift → List ℕ
shift_mark shift.Plain = []
shift_mark shift.F = codes " f"
shift_mark shift.G = codes " g"
