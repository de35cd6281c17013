use Rattle.jd_lrat.proofs.Signs.{negative-value}
use Rattle.jd_lrat.proofs.numerals.negative.Goals as goal

pub returns-else-v-eq0 : goal.returns-else-v-eq0
returns-else-v-eq0 c = negative-value c.args.word.now c.args.bound c.in-Some.v (λ e. c.if-v-eq0.false e) c.in-Some.ensures
