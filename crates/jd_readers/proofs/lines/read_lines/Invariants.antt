use Rattle.std.proofs.Common.{◌≡◌, ◌+◌, ◌-◌, ◌≤◌, length, drop}
use Rattle.jd_text.specs.Words.{word_lines}
use Rattle.jd_text.specs.Readings.{read_lines}
use Rattle.jd_readers.proofs.lines.read_lines.Given as goal

-- the lines that are left give what all give
abbrev pub invariant-lines : goal.invariant-lines
invariant-lines g l =
    let with_line = g.R.TakesLines.with_line in
    let state = g.R.TakesLines.state in
    record {
      within : l.at ≤ length l.text;
      few : l.count ≤ l.at;
      kept : with_line l.reader ≡ with_line l.initial.reader;
      counted : l.count + length (word_lines (drop l.at l.text)) ≡ length (word_lines l.text);
      same : read_lines (with_line l.initial.reader) (l.count + 1) (state l.reader) (word_lines (drop l.at l.text))
          ≡ read_lines (with_line l.initial.reader) 1 (state l.initial.reader) (word_lines l.text);
    }

abbrev pub decreases-lines : goal.decreases-lines
decreases-lines g l = length l.initial.text - l.at
