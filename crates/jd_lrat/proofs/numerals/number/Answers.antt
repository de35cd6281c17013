use Rattle.std.proofs.Common.{sym, ◌∙◌}
use Rattle.jd_lrat.proofs.Digit.{digits-turn, capped-turn}
use Rattle.jd_lrat.proofs.numerals.number.Goals as goal

pub loop-b-preserved : goal.loop-b-preserved
loop-b-preserved c = record {
  digits = digits-turn c.args.word.now c.loop-b.b-index 0 c.loop-b-test.true c.loop-b.invariant.digits (sym c.is_digit.ensures ∙ c.if-not-is_digit.false);
  capped = capped-turn c.args.word.now c.loop-b.b-index c.loop-b.v c.capped-v.result c.args.bound c.loop-b-test.true c.capped-v.ensures c.loop-b.invariant.capped;
}
