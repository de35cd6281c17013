-- the bytes so far are what was taken, within the limit, and each read gave at least one of them
use Rattle.std.proofs.Common.{◌-◌, ◌≤◌, length}
use Rattle.std.specs.Io.KnownBytes.{Consumes}
use Rattle.hp_io.specs.Causes.{CallsAtMost}
use Rattle.hp_io.proofs.limited.read_limited.Given as goal

abbrev pub invariant-loop-bytes : goal.invariant-loop-bytes
invariant-loop-bytes g l =
    let left = g.S.Source.left in
    let calls = g.S.Source.calls in
    record {
      taken : Consumes (left l.fn.source) (left l.source) l.bytes.items;
      within : length l.bytes.items ≤ l.limit;
      faults : g.S.Source.faults l.fn.source ≤ g.S.Source.faults l.source;
      calls : CallsAtMost (length l.bytes.items) (calls l.fn.source) (calls l.source);
    }

abbrev pub decreases-loop-bytes : goal.decreases-loop-bytes
decreases-loop-bytes g l = l.limit - length l.bytes.items
