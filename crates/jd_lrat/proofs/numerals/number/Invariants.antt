use Rattle.std.proofs.Common.{◌≡◌, take, min}
use Rattle.std.specs.List.{list_all}
use Rattle.std.proofs.Common.{true}
use Rattle.jd_logic.specs.Numerals.{number_from, is_digit}
use Rattle.jd_lrat.proofs.numerals.number.Given as goal

abbrev pub invariant-loop-b : goal.invariant-loop-b
invariant-loop-b l = record {
  digits : list_all is_digit (take l.b-index l.word) ≡ true;
  capped : l.v ≡ min (number_from 0 (take l.b-index l.word)) l.bound;
}
