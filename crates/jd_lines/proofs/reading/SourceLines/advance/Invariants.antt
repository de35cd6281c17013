use Rattle.std.proofs.Common.{◌≡◌, ◌+◌, ◌≤◌, false}
use Rattle.jd_lines.proofs.Advanced.{IsSoFar}
use Rattle.jd_lines.proofs.reading.SourceLines.advance.Given as goal

-- the line so far has no line feed, and each read gave at least one byte
abbrev pub invariant-loop-self : goal.invariant-loop-self
invariant-loop-self g l =
    let left = g.S.Source.left in
    let calls = g.S.Source.calls in
    record {
      began : l.fn.self.ended ≡ false;
      ended : l.self.ended ≡ false;
      so_far : IsSoFar l.fn.self l.self (left l.fn.source) (left l.source);
      faults : g.S.Source.faults l.fn.source ≤ g.S.Source.faults l.source;
      later : calls l.fn.source ≤ calls l.source;
      bound : calls l.source + l.self.within ≤ calls l.fn.source + l.fn.self.within;
    }

abbrev pub decreases-loop-self : goal.decreases-loop-self
decreases-loop-self g l = l.self.within
