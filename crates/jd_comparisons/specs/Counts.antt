-- A word less one or plus one.
use Rattle.std.specs.Prelude.{ℕ}
use Rattle.hp_model.specs.declared.Mode.{Mode}
use Rattle.hp_model.specs.WordOperations.{difference_pattern, sum_pattern}
use Rattle.hp_ops.specs.declared.groups.Loop.{Loop}
use Rattle.hp_ops.specs.declared.groups.Loop.TheVariants as loop

abbrev pub counted : Loop → ℕ → Mode → ℕ → ℕ
counted loop.Decrement w mode p = difference_pattern w mode p 1
counted loop.Increment w mode p = sum_pattern w mode p 1
