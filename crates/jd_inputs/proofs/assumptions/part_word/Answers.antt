use Rattle.jd_inputs.proofs.assumptions.part_word.Goals as goal

pub returns-in-X-clause-inside : goal.returns-in-X-clause-inside
returns-in-X-clause-inside c = λ n h. c.widened.ensures.inside n h.x

pub returns-in-Y-clause-inside : goal.returns-in-Y-clause-inside
returns-in-Y-clause-inside c = λ n h. c.widened-in-Y.ensures.inside n h.y

pub returns-in-Z-clause-inside : goal.returns-in-Z-clause-inside
returns-in-Z-clause-inside c = λ n h. c.widened-in-Z.ensures.inside n h.z

pub returns-in-T-clause-inside : goal.returns-in-T-clause-inside
returns-in-T-clause-inside c = λ n h. c.widened-in-T.ensures.inside n h.t

pub returns-in-L-clause-inside : goal.returns-in-L-clause-inside
returns-in-L-clause-inside c = λ n h. c.widened-in-L.ensures.inside n h.l

pub returns-in-I-clause-inside : goal.returns-in-I-clause-inside
returns-in-I-clause-inside c = λ n h. c.widened-in-I.ensures.inside n h.i
