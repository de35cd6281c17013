use Rattle.jd_inputs.proofs.assumptions.against_word.Goals as goal

pub returns-in-Number-clause-inside : goal.returns-in-Number-clause-inside
returns-in-Number-clause-inside c = λ n h. c.constant.ensures.inside n
