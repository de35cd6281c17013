use Rattle.std.proofs.Common.{◌≡◌, ◌+◌, ◌-◌, ◌≤◌, length}
use Rattle.jd_lines.specs.SourceLines.{reads_left}
use Rattle.jd_lines.proofs.ReadUntil.{ReadsOn}
use Rattle.jd_lines.proofs.until.read_until.Given as goal

abbrev pub invariant-taken : goal.invariant-taken
invariant-taken g l =
    let left = g.S.Source.left in
    let calls = g.S.Source.calls in
    let with_line = g.R.TakesLines.with_line in
    let state = g.R.TakesLines.state in
    record {
      kept : with_line l.reader ≡ with_line l.initial.reader;
      on : ReadsOn g.R.TakesLines.is_whole l.missing (with_line l.initial.reader) (state l.initial.reader) l.initial.lines l.lines (left l.initial.source) (left l.source) l.count (state l.reader);
      faults : g.S.Source.faults l.initial.source ≤ g.S.Source.faults l.source;
      later : calls l.initial.source ≤ calls l.source;
      bound : calls l.source + reads_left l.lines ≤ calls l.initial.source + reads_left l.initial.lines;
    }

abbrev pub decreases-taken : goal.decreases-taken
decreases-taken g l = (length l.initial.lines.held + l.initial.lines.within) - l.count
