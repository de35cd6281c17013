-- Where a machine stands, and how its memory is divided.
use Rattle.std.specs.Prelude.{◌≡◌, ◌≤◌, length}
use Rattle.hp_model.specs.State.{blocks_of}
use Rattle.hp_model.specs.Memory.{Memory}
use Rattle.hp_core.specs.declared.machine.Machine.{Machine}

-- at a line of the program, or before the first
abbrev pub IsOnLine : Machine → Type 0
IsOnLine m = m.control.line ≤ length m.memory.program

-- the program takes no more blocks of memory than it needs
abbrev pub HasOwnBlocks : Memory → Type 0
HasOwnBlocks memory = memory.blocks ≡ blocks_of (length memory.program)
