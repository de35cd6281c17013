use Rattle.jd_inputs.proofs.assumptions.assumption_lit.Goals as goal

pub relation_lit-requires-clause-first : goal.relation_lit-requires-clause-first
relation_lit-requires-clause-first g c = c.part_word-left.ensures.inside _ c.requires.words

pub relation_lit-requires-clause-second : goal.relation_lit-requires-clause-second
relation_lit-requires-clause-second g c = c.against_word-right.ensures.inside _ c.requires.words
