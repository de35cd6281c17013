use Rattle.jd_text.specs.Words.{words_of}
use Rattle.jd_check.specs.Runs.{IsChecking}
use Rattle.jd_checking.proofs.Told.{counted-one}
use Rattle.jd_checking.proofs.CertLinesTaken.{nothing-taken, begins-tree, event-taken, is-short, line-fault}
use Rattle.jd_checking.proofs.cert_lines.take_line.Goals as goal

pub returns-in-Err-clause-fault : goal.returns-in-Err-clause-fault
returns-in-Err-clause-fault g c = λ p lines so.
    line-fault (λ events. IsChecking p events c.args.run.now) lines c.args.reader.now so (words_of c.args.line.now) c.in-Err.fault c.take.new.self c.in-Err.ensures

pub returns-in-Nothing-clause-taken : goal.returns-in-Nothing-clause-taken
returns-in-Nothing-clause-taken g c = λ p lines so.
    nothing-taken (λ events. IsChecking p events c.args.run.now) lines c.args.reader.now so (words_of c.args.line.now) c.in-Ok.event c.take.new.self c.in-Ok.ensures c.in-Nothing.is

pub returns-in-Ok-event-clause-taken : goal.returns-in-Ok-event-clause-taken
returns-in-Ok-event-clause-taken g c = λ p lines so.
    let one = counted-one c.in-Ok.event c.in_default.not-Nothing in
    event-taken (λ events. IsChecking p events c.args.run.now) lines c.args.reader.now so (words_of c.args.line.now) c.in-Ok.event c.take.new.self c.in-Ok.ensures one (λ events. IsChecking p events c.event.new.self)
    (c.in-Ok-event.ensures.taken p so.events so.checking
    (begins-tree (λ events. IsChecking p events c.args.run.now) lines c.args.reader.now so (words_of c.args.line.now) c.in-Ok.event c.take.new.self c.in-Ok.ensures one)
    (is-short (λ events. IsChecking p events c.args.run.now) lines c.args.reader.now so c.requires))
