use Rattle.std.proofs.Common.{◌+◌, ap, subst}
use Rattle.std.specs.Prelude.{Err}
use Rattle.hp_io.specs.Limited.{Takes, TakesAtMost}
use Rattle.jd_lines.specs.SourceLines.{LineState}
use Rattle.jd_checking.specs.declared.source_checked.SourceChecked.{SourceChecked}
use Rattle.jd_checking.specs.Finds.{IsFound}
use Rattle.jd_checking.proofs.Costing.{found-spent, costs-stop}
use Rattle.jd_checking.proofs.Found.{all-answered}
use Rattle.jd_checking.proofs.sources.check_source.Goals as goal

pub returns-in-Ok-skip-clause-answer : goal.returns-in-Ok-skip-clause-answer
returns-in-Ok-skip-clause-answer g c =
    let left = g.S.Source.left in
    all-answered c.args.limit c.check_lines.new.lines c.skip.new.self (left c.args.source.now) (left c.check_lines.new.source) (left c.skip.new.source) c.in-Ok.answer
    (subst (λ (s : LineState). IsFound s c.check_lines.new.lines (left c.args.source.now) (left c.check_lines.new.source) c.in-Ok.answer) c.new-lines.ensures c.in-Ok.ensures.found)
    c.in-Ok-skip.ensures.skipped

pub returns-clause-too_long : goal.returns-clause-too_long
returns-clause-too_long g c = λ e.
    let left = g.S.Source.left in
    let faults = g.S.Source.faults in
    let calls = g.S.Source.calls in
    let costs = costs-stop c.new-lines.result c.check_lines.new.lines (left c.args.source.now) (left c.check_lines.new.source)
    (faults c.args.source.now) (faults c.check_lines.new.source) (calls c.args.source.now) (calls c.check_lines.new.source)
    (found-spent c.new-lines.result c.check_lines.new.lines (left c.args.source.now) (left c.check_lines.new.source) c.in-Ok.ensures.found.bytes
    (faults c.args.source.now) (faults c.check_lines.new.source) (calls c.args.source.now) (calls c.check_lines.new.source) c.in-Ok.answer c.in-Ok.ensures.found.read c.in-Ok.ensures.costs) {T = SourceChecked} c.skip.new.self (left c.skip.new.source) (faults c.skip.new.source) (calls c.skip.new.source) c.in-Err-skip.stop
    (λ e. c.in-Err-skip.ensures.too_long (ap (λ s. Err s) e)) c.in-Err-skip.ensures.stopped (λ e. c.in-Err-skip.ensures.failed (ap (λ s. Err s) e)) c.in-Err-skip.ensures.faults c.in-Err-skip.ensures.calls in
    subst (λ (s : LineState). Takes (s.within + 1) (left c.args.source.now) (left c.skip.new.source)) c.new-lines.ensures (costs.too_long e)

pub returns-clause-stopped : goal.returns-clause-stopped
returns-clause-stopped g c =
    let left = g.S.Source.left in
    let faults = g.S.Source.faults in
    let calls = g.S.Source.calls in
    let costs = costs-stop c.new-lines.result c.check_lines.new.lines (left c.args.source.now) (left c.check_lines.new.source)
    (faults c.args.source.now) (faults c.check_lines.new.source) (calls c.args.source.now) (calls c.check_lines.new.source)
    (found-spent c.new-lines.result c.check_lines.new.lines (left c.args.source.now) (left c.check_lines.new.source) c.in-Ok.ensures.found.bytes
    (faults c.args.source.now) (faults c.check_lines.new.source) (calls c.args.source.now) (calls c.check_lines.new.source) c.in-Ok.answer c.in-Ok.ensures.found.read c.in-Ok.ensures.costs) {T = SourceChecked} c.skip.new.self (left c.skip.new.source) (faults c.skip.new.source) (calls c.skip.new.source) c.in-Err-skip.stop
    (λ e. c.in-Err-skip.ensures.too_long (ap (λ s. Err s) e)) c.in-Err-skip.ensures.stopped (λ e. c.in-Err-skip.ensures.failed (ap (λ s. Err s) e)) c.in-Err-skip.ensures.faults c.in-Err-skip.ensures.calls in
    subst (λ (s : LineState). TakesAtMost (s.within + 1) (left c.args.source.now) (left c.skip.new.source)) c.new-lines.ensures costs.stopped
