use Rattle.jd_content.proofs.registers.recall_at.Goals as goal

pub returns-clause-fits : goal.returns-clause-fits
returns-clause-fits c = λ n h. c.push.ensures.fits n _ h (record { size = c.read_register-x.ensures.length; inside = c.read_register-x.ensures.inside n h.nibbles })
