use Rattle.std.proofs.Common.{◌≡◌, ◌-◌, ◌≤◌, false}
use Rattle.hp_run.specs.Seen.{calculator_of}
use Rattle.hp_debug.specs.Debuggers.{run_lines}
use Rattle.hp_debug.proofs.debuggers.Debugger.run_lines.Given as goal

-- what is left of the run gives what the whole gives
abbrev pub invariant-loop : goal.invariant-loop
invariant-loop l = record {
  so_far : run_lines (l.bound - l.counter) (calculator_of l.before) l.self ≡ run_lines l.bound (calculator_of l.fn.before) l.fn.self;
  mode : l.self.present.programming ≡ false;
  from_a_line : 1 ≤ l.self.present.machine.control.line;
}
