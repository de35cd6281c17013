use Rattle.jd_content.proofs.digits.change_by_digit.Goals as goal

pub returns-after-is_none-clause-fits : goal.returns-after-is_none-clause-fits
returns-after-is_none-clause-fits c = λ n h. c.push.ensures.fits n _ h (record { size = c.constant-x.ensures.length; inside = c.constant-x.ensures.inside n })
