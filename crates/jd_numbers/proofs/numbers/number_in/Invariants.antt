use Rattle.std.proofs.Common.{◌≡◌, ◌^◌, ◌<◌, drop}
use Rattle.jd_text.specs.Digits.{digits_value, are_digits}
use Rattle.jd_numbers.proofs.numbers.number_in.Given as goal

-- the digits that are left give what all give
abbrev pub invariant-loop-b : goal.invariant-loop-b
invariant-loop-b l = record {
  value : digits_value l.base l.n (drop l.b-index l.word) ≡ digits_value l.base 0 l.word;
  digits : are_digits l.base (drop l.b-index l.word) ≡ are_digits l.base l.word;
  below : l.n < l.base ^ l.b-index;
}
