use Rattle.std.proofs.Common.{◌≡◌, ◌-◌, length}
use Rattle.jd_readers.proofs.LinesRead.{ReadsOn}
use Rattle.jd_readers.proofs.ends.read_until.Given as goal

abbrev pub invariant-lines : goal.invariant-lines
invariant-lines g l =
    let with_line = g.R.TakesLines.with_line in
    let state = g.R.TakesLines.state in
    record {
      kept : with_line l.reader ≡ with_line l.initial.reader;
      on : ReadsOn g.R.TakesLines.is_whole l.missing (with_line l.initial.reader) (state l.initial.reader) l.text l.at l.count (state l.reader);
    }

abbrev pub decreases-lines : goal.decreases-lines
decreases-lines g l = length l.initial.text - l.at
