use Rattle.std.proofs.Common.{take}
use Rattle.std.specs.Prelude.{flat_map}
use Rattle.jd_text.specs.Words.{line}
use Rattle.jd_trees.specs.CertWriter.{proof_words}
use Rattle.jd_cert.specs.Pages.{Gives, stand}
use Rattle.jd_cert.proofs.writer.put_lines.Given as goal

abbrev pub invariant-loop-proof : goal.invariant-loop-proof
invariant-loop-proof g l =
    Gives (stand (g.K.Sink.written l.initial.sink) (g.K.Sink.faults l.initial.sink) l.initial.page) (stand (g.K.Sink.written l.sink) (g.K.Sink.faults l.sink) l.page)
    (flat_map (λ proof. line (proof_words proof)) (take l.proof-index l.lines))
