use Rattle.std.proofs.Common.{◌≡◌, [], ◌++◌, ap, sym, ◌∙◌, subst, codes}
use Rattle.std.specs.Prelude.{flat_map}
use Rattle.jd_text.specs.Words.{written}
use Rattle.jd_trees.specs.Trees.{IsCert}
use Rattle.jd_trees.specs.CertWriter.{node_lines, certificate_text}
use Rattle.jd_trees.proofs.ReadBack.{certificate-back}
use Rattle.jd_cert.specs.Pages.{stand, IsGiven, IsEnded}
use Rattle.jd_cert.proofs.Pieces.{gives-then, begins}
use Rattle.jd_cert.proofs.LineTexts.{written-flat_map}
use Rattle.jd_cert.proofs.writer.write_cert.Given as given
use Rattle.jd_cert.proofs.writer.write_cert.Goals as goal

text-is : (g : given.Over) (c : goal.After-finish g) → codes "certificate 1\n" ++ flat_map (λ node. written (node_lines node)) c.nodes.result.now ≡ certificate_text c.args.cert.now
text-is g c = ap (λ t. codes "certificate 1\n" ++ t) (written-flat_map node_lines c.nodes.result.now) ∙ ap certificate_text c.nodes.ensures.same

ended : (g : given.Over) (c : goal.After-finish g)
    → IsEnded (g.K.Sink.written c.args.sink.now) (g.K.Sink.faults c.args.sink.now) (certificate_text c.args.cert.now) (g.K.Sink.written c.finish.new.sink) (g.K.Sink.faults c.finish.new.sink) c.finish.result
ended g c =
    c.finish.ensures (g.K.Sink.written c.args.sink.now) (g.K.Sink.faults c.args.sink.now) (certificate_text c.args.cert.now)
    (subst (λ t. IsGiven (g.K.Sink.written c.args.sink.now) (g.K.Sink.faults c.args.sink.now) t (stand (g.K.Sink.written c.put_nodes.new.sink) (g.K.Sink.faults c.put_nodes.new.sink) c.put_nodes.new.page)) (text-is g c)
    (gives-then (stand (g.K.Sink.written c.args.sink.now) (g.K.Sink.faults c.args.sink.now) c.new-page.result) (stand (g.K.Sink.written c.put.new.sink) (g.K.Sink.faults c.put.new.sink) c.put.new.self) (stand (g.K.Sink.written c.put_nodes.new.sink) (g.K.Sink.faults c.put_nodes.new.sink) c.put_nodes.new.page) _ _ c.put.ensures c.put_nodes.ensures
    (g.K.Sink.written c.args.sink.now) (g.K.Sink.faults c.args.sink.now) []
    (subst (λ s. IsGiven (g.K.Sink.written c.args.sink.now) (g.K.Sink.faults c.args.sink.now) [] (stand (g.K.Sink.written c.args.sink.now) (g.K.Sink.faults c.args.sink.now) s)) (sym c.new-page.ensures)
    (begins (g.K.Sink.written c.args.sink.now) (g.K.Sink.faults c.args.sink.now)))))

pub returns-clause-whole : goal.returns-clause-whole
returns-clause-whole g c = (ended g c).whole

pub returns-clause-part : goal.returns-clause-part
returns-clause-part g c = (ended g c).part

pub returns-clause-cause : goal.returns-clause-cause
returns-clause-cause g c = (ended g c).cause

pub returns-clause-reads_back : goal.returns-clause-reads_back
returns-clause-reads_back g c = certificate-back c.args.cert.now (subst IsCert c.nodes.ensures.same c.nodes.ensures.tree)
