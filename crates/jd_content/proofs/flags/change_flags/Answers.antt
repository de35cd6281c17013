use Rattle.jd_content.proofs.flags.change_flags.Goals as goal

pub returns-in-Set-clause-fits : goal.returns-in-Set-clause-fits
returns-in-Set-clause-fits c = λ n w h. c.put_flag.ensures.fits n w h

pub returns-in-Clear-clause-fits : goal.returns-in-Clear-clause-fits
returns-in-Clear-clause-fits c = λ n w h. c.put_flag-in-Clear.ensures.fits n w h
