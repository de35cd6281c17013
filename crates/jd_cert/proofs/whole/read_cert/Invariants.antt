use Rattle.std.proofs.Common.{◌≡◌, suc, ◌+◌, ◌-◌, ◌≤◌, length, drop, None}
use Rattle.jd_text.specs.Words.{word_lines}
use Rattle.jd_text.specs.Readings.{read_lines}
use Rattle.jd_trees.specs.CertTexts.{first_reading, with_cert_line}
use Rattle.jd_trees.proofs.Forests.{IsRight}
use Rattle.jd_cert.proofs.whole.read_cert.Given as goal

-- the lines that are left give what all give, and what was read begins a tree
abbrev pub invariant-lines : goal.invariant-lines
invariant-lines l = record {
  within : l.at ≤ length l.bytes;
  few : l.reader.lines ≤ l.at;
  good : l.reader.fault ≡ None;
  right : IsRight l.kept l.reader.spot;
  counted : l.reader.lines + length (word_lines (drop l.at l.bytes)) ≡ length (word_lines l.bytes);
  same : read_lines with_cert_line (suc l.reader.lines) (record { spot = l.reader.spot; told = l.kept }) (word_lines (drop l.at l.bytes))
      ≡ read_lines with_cert_line 1 first_reading (word_lines l.bytes);
}

abbrev pub decreases-lines : goal.decreases-lines
decreases-lines l = length l.initial.bytes - l.at
