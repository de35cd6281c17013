use Rattle.std.proofs.Common.{arith, sym}
use Rattle.jd_text.specs.Words.{written}
use Rattle.jd_trees.specs.CertWriter.{node_lines}
use Rattle.jd_cert.specs.Pages.{stand}
use Rattle.jd_cert.proofs.Pieces.{gives-more, gives-all}
use Rattle.jd_cert.proofs.writer.put_nodes.Goals as goal

pub loop-node-preserved : goal.loop-node-preserved
loop-node-preserved g c =
    gives-more (λ node. written (node_lines node)) c.args.nodes.now c.loop-node.node-index c.node-item.result
    (stand (g.K.Sink.written c.args.sink.now) (g.K.Sink.faults c.args.sink.now) c.args.page.now)
    (stand (g.K.Sink.written c.loop-node.sink) (g.K.Sink.faults c.loop-node.sink) c.loop-node.page)
    (stand (g.K.Sink.written c.put_node.new.sink) (g.K.Sink.faults c.put_node.new.sink) c.put_node.new.page)
    c.loop-node-test.true (sym c.node-item.is) c.loop-node.invariant c.put_node.ensures

pub returns : goal.returns
returns g c =
    gives-all (λ node. written (node_lines node)) c.args.nodes.now c.loop-node.node-index
    (stand (g.K.Sink.written c.args.sink.now) (g.K.Sink.faults c.args.sink.now) c.args.page.now)
    (stand (g.K.Sink.written c.loop-node.sink) (g.K.Sink.faults c.loop-node.sink) c.loop-node.page)
    (let h = c.loop-node-test.false in omega (arith, h)) c.loop-node.invariant
