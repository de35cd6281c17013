use Rattle.std.proofs.Common.{◌≡◌, ◌-◌, ◌≤◌}
use Rattle.hp_model.specs.Run.{run as run_of}
use Rattle.hp_core.specs.Machines.{machine_of, KeepsLines}
use Rattle.hp_run.proofs.runs.run.Given as goal

-- what is left of the run gives what the whole gives
abbrev pub invariant-loop : goal.invariant-loop
invariant-loop l = record {
  so_far : run_of (l.bound - l.counter) (machine_of l.machine) ≡ run_of l.bound (machine_of l.fn.machine);
  lines : KeepsLines l.fn.machine l.machine;
  from_a_line : 1 ≤ l.machine.control.line;
}
