use Rattle.std.proofs.Common.{take}
use Rattle.std.specs.Prelude.{flat_map}
use Rattle.jd_text.specs.Words.{written}
use Rattle.jd_trees.specs.CertWriter.{node_lines}
use Rattle.jd_cert.specs.Pages.{Gives, stand}
use Rattle.jd_cert.proofs.writer.put_nodes.Given as goal

abbrev pub invariant-loop-node : goal.invariant-loop-node
invariant-loop-node g l =
    Gives (stand (g.K.Sink.written l.initial.sink) (g.K.Sink.faults l.initial.sink) l.initial.page) (stand (g.K.Sink.written l.sink) (g.K.Sink.faults l.sink) l.page)
    (flat_map (λ node. written (node_lines node)) (take l.node-index l.nodes))
