use Rattle.std.proofs.Common.{◌+◌, ap, sym, subst}
use Rattle.std.specs.Prelude.{Ok, Err}
use Rattle.jd_problem.specs.Problems.{problem_of}
use Rattle.jd_problem.specs.Readings.{reading_of}
use Rattle.jd_checking.specs.declared.source_checked.SourceChecked.TheVariants.{BadLine}
use Rattle.jd_checking.specs.CertChecks.{IsRestChecked}
use Rattle.jd_checking.specs.Finds.{IsFound}
use Rattle.jd_checking.proofs.Costing.{costs-stop, read-spent}
use Rattle.jd_checking.proofs.Found.{read-since, problem-bad, rest-checked, rest-bad}
use Rattle.jd_checking.proofs.sources.check_lines.Goals as goal

pub returns-in-Err-read-clause-found : goal.returns-in-Err-read-clause-found
returns-in-Err-read-clause-found g c =
    let left = g.S.Source.left in
    problem-bad c.args.lines.now c.read_until.new.lines (left c.args.source.now) (left c.read_until.new.source) c.in-Err-read.line c.in-Err-read.field-0-1 (reading_of c.read_until.new.reader)
    (read-since c.args.lines.now c.read_until.new.lines (left c.args.source.now) (left c.read_until.new.source) (reading_of c.new-reader.result) (reading_of c.read_until.new.reader) c.in-Ok.read (Err (c.in-Err-read.line, c.in-Err-read.field-0-1)) c.new-reader.ensures c.in-Err-read.is c.in-Ok.ensures.read)

pub returns-in-Err-check_certificate-clause-costs : goal.returns-in-Err-check_certificate-clause-costs
returns-in-Err-check_certificate-clause-costs g c =
    let left = g.S.Source.left in
    let faults = g.S.Source.faults in
    let calls = g.S.Source.calls in
    let costs = c.in-Err-check_certificate.ensures.costs in
    costs-stop c.args.lines.now c.read_until.new.lines (left c.args.source.now) (left c.read_until.new.source)
    (faults c.args.source.now) (faults c.read_until.new.source) (calls c.args.source.now) (calls c.read_until.new.source)
    (read-spent c.args.lines.now c.read_until.new.lines (left c.args.source.now) (left c.read_until.new.source) c.in-Ok.ensures.read.bytes
    (faults c.args.source.now) (faults c.read_until.new.source) (calls c.args.source.now) (calls c.read_until.new.source)
    c.in-Ok.ensures.read.read c.in-Ok.ensures.faults c.in-Ok.ensures.calls.later c.in-Ok.ensures.reads)
    c.check_certificate.new.lines (left c.check_certificate.new.source) (faults c.check_certificate.new.source) (calls c.check_certificate.new.source) c.in-Err-check_certificate.stop
    (λ e. costs.too_long (ap (λ s. Err s) e)) costs.stopped (λ e. costs.failed (ap (λ s. Err s) e)) costs.faults_later costs.calls_made

pub returns-in-Ok-answer-clause-found : goal.returns-in-Ok-answer-clause-found
returns-in-Ok-answer-clause-found g c =
    let left = g.S.Source.left in
    rest-checked c.args.lines.now c.read_until.new.lines c.check_certificate.new.lines (left c.args.source.now) (left c.read_until.new.source) (left c.check_certificate.new.source)
    c.in-Ok-read.before (reading_of c.read_until.new.reader)
    (read-since c.args.lines.now c.read_until.new.lines (left c.args.source.now) (left c.read_until.new.source) (reading_of c.new-reader.result) (reading_of c.read_until.new.reader) c.in-Ok.read (Ok c.in-Ok-read.before) c.new-reader.ensures c.in-Ok-read.is c.in-Ok.ensures.read)
    c.in-Ok-answer.checked
    (subst (IsRestChecked (problem_of c.read_until.new.reader.problem) c.read_until.new.lines c.check_certificate.new.lines (left c.read_until.new.source) (left c.check_certificate.new.source)) c.in-Ok-answer.is c.in-Ok-check_certificate.ensures.answer)

pub returns-in-Err-answer-clause-found : goal.returns-in-Err-answer-clause-found
returns-in-Err-answer-clause-found g c =
    let left = g.S.Source.left in
    subst (λ line. IsFound c.args.lines.now c.check_certificate.new.lines (left c.args.source.now) (left c.check_certificate.new.source) (BadLine (c.in-Ok-read.before + line))) (sym c.from.ensures)
    (rest-bad c.args.lines.now c.read_until.new.lines c.check_certificate.new.lines (left c.args.source.now) (left c.read_until.new.source) (left c.check_certificate.new.source)
    c.in-Ok-read.before (reading_of c.read_until.new.reader)
    (read-since c.args.lines.now c.read_until.new.lines (left c.args.source.now) (left c.read_until.new.source) (reading_of c.new-reader.result) (reading_of c.read_until.new.reader) c.in-Ok.read (Ok c.in-Ok-read.before) c.new-reader.ensures c.in-Ok-read.is c.in-Ok.ensures.read)
    c.in-Err-answer.line
    (subst (IsRestChecked (problem_of c.read_until.new.reader.problem) c.read_until.new.lines c.check_certificate.new.lines (left c.read_until.new.source) (left c.check_certificate.new.source)) c.in-Err-answer.is c.in-Ok-check_certificate.ensures.answer))
