use Rattle.std.proofs.Common.{◌≡◌, ◌+◌, ◌≤◌, false}
use Rattle.jd_lines.proofs.Advanced.{IsSkippedTo}
use Rattle.jd_lines.proofs.reading.SourceLines.skip.Given as goal

-- each read gave at least one byte
abbrev pub invariant-loop-some : goal.invariant-loop-some
invariant-loop-some g l =
    let left = g.S.Source.left in
    let calls = g.S.Source.calls in
    record {
      began : l.fn.self.ended ≡ false;
      ended : l.self.ended ≡ false;
      so_far : IsSkippedTo l.fn.self l.self (left l.fn.source) (left l.source);
      faults : g.S.Source.faults l.fn.source ≤ g.S.Source.faults l.source;
      later : calls l.fn.source ≤ calls l.source;
      bound : calls l.source + l.self.within ≤ calls l.fn.source + l.fn.self.within;
    }

abbrev pub decreases-loop-some : goal.decreases-loop-some
decreases-loop-some g l = l.self.within
