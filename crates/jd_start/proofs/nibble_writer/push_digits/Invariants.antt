use Rattle.std.proofs.Common.{◌≡◌, ◌+◌, ◌++◌, map, take, true}
use Rattle.std.specs.Fmt.{digit_glyph}
use Rattle.arrayvec.specs.ArrayString.{array_string_len}
use Rattle.jd_start.proofs.nibble_writer.push_digits.Given as goal

abbrev pub invariant-loop-digit : goal.invariant-loop-digit
invariant-loop-digit g l = record {
  text : l.text.bytes ≡ l.initial.text.bytes ++ map (digit_glyph true) (take l.digit-index l.digits);
  len : array_string_len l.text ≡ array_string_len l.initial.text + l.digit-index;
}
