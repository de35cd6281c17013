-- what was taken and written so far, and that the counts of faults don't fall
use Rattle.std.proofs.Common.{◌+◌, ◌<◌, ◌≤◌, ◌-◌, length}
use Rattle.hp_model.specs.Session.{byte_limit}
use Rattle.hp_session.proofs.SoFar.{SoFar}
use Rattle.hp_session.proofs.sessions.session.Given as goal

abbrev pub invariant-loop-reading : goal.invariant-loop-reading
invariant-loop-reading g l =
    let left = g.S.Source.left in
    let written = g.K.Sink.written in
    record {
      so_far : SoFar (left l.fn.source) (left l.source) (written l.fn.sink) (written l.sink) l.count l.reading;
      within : l.count ≤ byte_limit;
      line : l.reading.line ≤ l.count + 1;
      word : length l.reading.word < 8;
      read_faults : g.S.Source.faults l.fn.source ≤ g.S.Source.faults l.source;
      write_faults : g.K.Sink.faults l.fn.sink ≤ g.K.Sink.faults l.sink;
      calls_later : g.S.Source.calls l.fn.source ≤ g.S.Source.calls l.source;
      calls : g.S.Source.calls l.source ≤ g.S.Source.calls l.fn.source + l.count;
    }

abbrev pub decreases-loop-reading : goal.decreases-loop-reading
decreases-loop-reading g l = byte_limit + 1 - l.count
