-- A debugger's fields as the definitions see them, and what always holds of them.
use Rattle.std.specs.Prelude.{◌≤◌}
use Rattle.std.specs.VecDeque.{deque_len, deque_capacity}
use Rattle.hp_run.specs.Seen.{calculator_of}
use Rattle.hp_debug.specs.Debuggers.{Debugger}
use Rattle.hp_debug.specs.History.{states_of}
use Rattle.hp_debug.specs.declared.debuggers.Debugger.TheInside.{Inside}

abbrev pub debugger_of : Inside → Debugger
debugger_of d = record { present = calculator_of d.calculator; history = states_of d.history.items; depth = d.depth; breakpoints = d.breakpoints }

-- the room for all states is taken, so that recording needs none
pub record HasRoom (d : Inside) : Type 0 where
  pub depth : 1 ≤ d.depth
  pub few : deque_len d.history ≤ d.depth
  pub room : d.depth ≤ deque_capacity d.history
