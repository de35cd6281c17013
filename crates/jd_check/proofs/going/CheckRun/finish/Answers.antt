use Rattle.jd_check.proofs.going.CheckRun.finish.Goals as goal

pub returns-clause-checked : goal.returns-clause-checked
returns-clause-checked g c = λ p tree h. c.answer_of-checked.ensures p tree (h c.if-spent.false)
