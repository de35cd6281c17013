use Rattle.jd_comparisons.proofs.counting.one_more.Goals as goal

pub sum-requires-clause-second : goal.sum-requires-clause-second
sum-requires-clause-second g c = c.one-one.ensures.inside _
