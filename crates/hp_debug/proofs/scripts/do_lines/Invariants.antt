use Rattle.std.proofs.Common.{◌-◌, ◌≤◌, length}
use Rattle.hp_debug.proofs.ScriptOutput.{Progress}
use Rattle.hp_debug.proofs.scripts.do_lines.Given as goal

abbrev pub invariant-lines : goal.invariant-lines
invariant-lines g l =
    let written = g.K.Sink.written in
    record {
      within : l.at ≤ length l.bytes;
      so_far : Progress l.initial.debugger l.debugger l.bytes l.at l.first (written l.initial.sink) (written l.sink);
      faults : g.K.Sink.faults l.initial.sink ≤ g.K.Sink.faults l.sink;
    }

abbrev pub decreases-lines : goal.decreases-lines
decreases-lines g l = length l.initial.bytes - l.at
