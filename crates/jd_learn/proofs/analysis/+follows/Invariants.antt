use Rattle.jd_learn.proofs.analysis.+follows.Given as goal

abbrev pub decreases-follows : goal.decreases-follows
decreases-follows l = l.depth
