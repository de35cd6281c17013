use Rattle.std.proofs.Common.{◌≡◌, ◌≤◌, length, take}
use Rattle.jd_model.specs.StartTexts.{nibbles_text}
use Rattle.jd_start.proofs.nibble_writer.count_written.Given as goal

-- the nibbles that are left give the same text
abbrev pub invariant-loop-count : goal.invariant-loop-count
invariant-loop-count l = record {
  within : l.count ≤ length l.nibbles;
  text : nibbles_text l.nibbles ≡ nibbles_text (take l.count l.nibbles);
}

abbrev pub decreases-loop-count : goal.decreases-loop-count
decreases-loop-count l = l.count
