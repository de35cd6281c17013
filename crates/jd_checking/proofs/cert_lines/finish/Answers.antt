use Rattle.std.proofs.Common.{◌+◌, sym, ap, ◌∙◌}
use Rattle.std.specs.Prelude.{Err}
use Rattle.jd_check.specs.Runs.{IsChecking}
use Rattle.jd_checking.proofs.CertLinesTaken.{cert-checked, cert-unfinished}
use Rattle.jd_checking.proofs.cert_lines.finish.Goals as goal

pub returns-then-not-whole : goal.returns-then-not-whole
returns-then-not-whole g c = λ p lines so.
    cert-unfinished (λ events. IsChecking p events c.args.run) lines c.args.reader.now so (sym c.whole.ensures ∙ c.if-not-whole.true) ∙ ap (λ n. Err (n + 1)) (sym c.lines.ensures)

pub returns : goal.returns
returns g c = λ p lines so.
    cert-checked (λ events. IsChecking p events c.args.run) lines c.args.reader.now so p c.in_ok-checked.checked (sym c.whole.ensures ∙ c.if-not-whole.false) (c.in_ok-checked.ensures.checked p)
