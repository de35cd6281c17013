use Rattle.std.proofs.Common.{ap, sym}
use Rattle.jd_text.specs.Words.{written}
use Rattle.jd_trees.specs.CertWriter.{node_lines}
use Rattle.jd_cert.specs.Pages.{stand}
use Rattle.jd_cert.proofs.Pieces.{gives-then, gives-as}
use Rattle.jd_cert.proofs.writer.put_node.Goals as goal

pub returns-in-Fork : goal.returns-in-Fork
returns-in-Fork g c = gives-as (stand (g.K.Sink.written c.args.sink.now) (g.K.Sink.faults c.args.sink.now) c.args.page.now) (stand (g.K.Sink.written c.put.new.sink) (g.K.Sink.faults c.put.new.sink) c.put.new.self) _ _ (ap (λ n. written (node_lines n)) (sym c.in-Fork.is)) c.put.ensures

pub returns-in-Leaf : goal.returns-in-Leaf
returns-in-Leaf g c =
    gives-as (stand (g.K.Sink.written c.args.sink.now) (g.K.Sink.faults c.args.sink.now) c.args.page.now) (stand (g.K.Sink.written c.put_log.new.sink) (g.K.Sink.faults c.put_log.new.sink) c.put_log.new.page) _ _ (ap (λ n. written (node_lines n)) (sym c.in-Leaf.is))
    (gives-then (stand (g.K.Sink.written c.args.sink.now) (g.K.Sink.faults c.args.sink.now) c.args.page.now) (stand (g.K.Sink.written c.put-in-Leaf.new.sink) (g.K.Sink.faults c.put-in-Leaf.new.sink) c.put-in-Leaf.new.self) (stand (g.K.Sink.written c.put_log.new.sink) (g.K.Sink.faults c.put_log.new.sink) c.put_log.new.page) _ _ c.put-in-Leaf.ensures c.put_log.ensures)

pub returns-in-Cut : goal.returns-in-Cut
returns-in-Cut g c =
    gives-as (stand (g.K.Sink.written c.args.sink.now) (g.K.Sink.faults c.args.sink.now) c.args.page.now) (stand (g.K.Sink.written c.put_log-in-Cut.new.sink) (g.K.Sink.faults c.put_log-in-Cut.new.sink) c.put_log-in-Cut.new.page) _ _ (ap (λ n. written (node_lines n)) (sym c.in-Cut.is))
    (gives-then (stand (g.K.Sink.written c.args.sink.now) (g.K.Sink.faults c.args.sink.now) c.args.page.now) (stand (g.K.Sink.written c.put-in-Cut.new.sink) (g.K.Sink.faults c.put-in-Cut.new.sink) c.put-in-Cut.new.self) (stand (g.K.Sink.written c.put_log-in-Cut.new.sink) (g.K.Sink.faults c.put_log-in-Cut.new.sink) c.put_log-in-Cut.new.page) _ _ c.put-in-Cut.ensures c.put_log-in-Cut.ensures)
