use Rattle.std.proofs.Common.{◌++◌, ap, ◌∙◌, codes}
use Rattle.std.specs.Prelude.{flat_map}
use Rattle.jd_text.specs.Words.{line, written}
use Rattle.jd_trees.specs.CertLines.{only}
use Rattle.jd_trees.specs.CertWriter.{proof_words, log_lines}
use Rattle.jd_cert.specs.Pages.{stand}
use Rattle.jd_cert.proofs.Pieces.{gives-then, gives-as}
use Rattle.jd_cert.proofs.LineTexts.{written-log}
use Rattle.jd_cert.proofs.writer.put_log.Goals as goal

pub returns : goal.returns
returns g c =
    gives-as (stand (g.K.Sink.written c.args.sink.now) (g.K.Sink.faults c.args.sink.now) c.args.page.now) (stand (g.K.Sink.written c.put.new.sink) (g.K.Sink.faults c.put.new.sink) c.put.new.self) (flat_map (λ proof. line (proof_words proof)) c.lines.result.now ++ codes "end\n") (written (log_lines c.args.log.now))
    (written-log proof_words c.lines.result.now (only (codes "end")) ∙ ap (λ lines. written (log_lines lines)) c.lines.ensures.same)
    (gives-then (stand (g.K.Sink.written c.args.sink.now) (g.K.Sink.faults c.args.sink.now) c.args.page.now) (stand (g.K.Sink.written c.put_lines.new.sink) (g.K.Sink.faults c.put_lines.new.sink) c.put_lines.new.page) (stand (g.K.Sink.written c.put.new.sink) (g.K.Sink.faults c.put.new.sink) c.put.new.self) _ _ c.put_lines.ensures c.put.ensures)
