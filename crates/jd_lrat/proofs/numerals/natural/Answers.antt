use Rattle.jd_lrat.proofs.Signs.{natural-value}
use Rattle.jd_lrat.proofs.numerals.natural.Goals as goal

pub returns-in-Some : goal.returns-in-Some
returns-in-Some c = natural-value c.args.word.now c.args.bound c.in-Some.v c.in-Some.ensures
