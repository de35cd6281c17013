use Rattle.std.proofs.Common.{◌≡◌, length, take, map}
use Rattle.jd_text.specs.Digits.{digit_value}
use Rattle.jd_problem.proofs.start_lines.nibbles_of.Given as goal

abbrev pub invariant-loop-b : goal.invariant-loop-b
invariant-loop-b l = record {
  value : l.nibbles ≡ map digit_value (take l.b-index l.word);
  count : length l.nibbles ≡ l.b-index;
}
