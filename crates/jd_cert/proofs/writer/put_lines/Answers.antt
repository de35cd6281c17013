use Rattle.std.proofs.Common.{arith, sym}
use Rattle.jd_text.specs.Words.{line}
use Rattle.jd_trees.specs.CertWriter.{proof_words}
use Rattle.jd_cert.specs.Pages.{stand}
use Rattle.jd_cert.proofs.Pieces.{gives-more, gives-all}
use Rattle.jd_cert.proofs.writer.put_lines.Goals as goal

pub loop-proof-preserved : goal.loop-proof-preserved
loop-proof-preserved g c =
    gives-more (λ proof. line (proof_words proof)) c.args.lines.now c.loop-proof.proof-index c.proof-item.result
    (stand (g.K.Sink.written c.args.sink.now) (g.K.Sink.faults c.args.sink.now) c.args.page.now)
    (stand (g.K.Sink.written c.loop-proof.sink) (g.K.Sink.faults c.loop-proof.sink) c.loop-proof.page)
    (stand (g.K.Sink.written c.put_line.new.sink) (g.K.Sink.faults c.put_line.new.sink) c.put_line.new.page)
    c.loop-proof-test.true (sym c.proof-item.is) c.loop-proof.invariant c.put_line.ensures

pub returns : goal.returns
returns g c =
    gives-all (λ proof. line (proof_words proof)) c.args.lines.now c.loop-proof.proof-index
    (stand (g.K.Sink.written c.args.sink.now) (g.K.Sink.faults c.args.sink.now) c.args.page.now)
    (stand (g.K.Sink.written c.loop-proof.sink) (g.K.Sink.faults c.loop-proof.sink) c.loop-proof.page)
    (let h = c.loop-proof-test.false in omega (arith, h)) c.loop-proof.invariant
