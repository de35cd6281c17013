use Rattle.jd_comparisons.proofs.counting.one_less.Goals as goal

pub difference_pattern-requires-clause-second : goal.difference_pattern-requires-clause-second
difference_pattern-requires-clause-second g c = c.one-one.ensures.inside _
