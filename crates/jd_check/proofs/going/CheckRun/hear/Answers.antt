use Rattle.jd_check.proofs.going.CheckRun.hear.Goals as goal

pub returns-clause-taken : goal.returns-clause-taken
returns-clause-taken g c = λ p events h begins short spent. c.in_ok-advance.ensures.going p events (h c.if-self.false) begins short

pub returns-clause-over : goal.returns-clause-over
returns-clause-over g c = λ over. c.in_ok-advance.ensures.over over
