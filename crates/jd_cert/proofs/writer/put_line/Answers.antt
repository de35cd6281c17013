use Rattle.std.proofs.Common.{[], ◌∷◌, ◌++◌, ap, sym, ◌∙◌}
use Rattle.std.specs.Prelude.{decimal, flat_map}
use Rattle.std.specs.Fmt.{signed_decimal}
use Rattle.jd_text.specs.Words.{line}
use Rattle.jd_trees.specs.CertWriter.{proof_words}
use Rattle.jd_cert.specs.Pages.{stand}
use Rattle.jd_cert.proofs.Pieces.{gives-then, gives-as}
use Rattle.jd_cert.proofs.LineTexts.{derive-text, delete-text}
use Rattle.jd_cert.proofs.writer.put_line.Goals as goal

pub returns-in-Derive : goal.returns-in-Derive
returns-in-Derive g c =
    gives-as (stand (g.K.Sink.written c.args.sink.now) (g.K.Sink.faults c.args.sink.now) c.args.page.now) (stand (g.K.Sink.written c.put-in-Derive.new.sink) (g.K.Sink.faults c.put-in-Derive.new.sink) c.put-in-Derive.new.self) _ _
    (derive-text _ _ _ ∙ ap (λ p. line (proof_words p)) (sym c.in-Derive.is))
    (gives-then (stand (g.K.Sink.written c.args.sink.now) (g.K.Sink.faults c.args.sink.now) c.args.page.now) (stand (g.K.Sink.written c.put_number.new.sink) (g.K.Sink.faults c.put_number.new.sink) c.put_number.new.self) (stand (g.K.Sink.written c.put-in-Derive.new.sink) (g.K.Sink.faults c.put-in-Derive.new.sink) c.put-in-Derive.new.self) _ _ c.put_number.ensures
    (gives-then (stand (g.K.Sink.written c.put_number.new.sink) (g.K.Sink.faults c.put_number.new.sink) c.put_number.new.self) (stand (g.K.Sink.written c.put_numbers.new.sink) (g.K.Sink.faults c.put_numbers.new.sink) c.put_numbers.new.self) (stand (g.K.Sink.written c.put-in-Derive.new.sink) (g.K.Sink.faults c.put-in-Derive.new.sink) c.put-in-Derive.new.self) _ _
    (gives-as _ _ _ _ (ap (flat_map (λ z. signed_decimal z ++ 32 ∷ [])) c.literals.ensures.same) c.put_numbers.ensures)
    (gives-then (stand (g.K.Sink.written c.put_numbers.new.sink) (g.K.Sink.faults c.put_numbers.new.sink) c.put_numbers.new.self) (stand (g.K.Sink.written c.put.new.sink) (g.K.Sink.faults c.put.new.sink) c.put.new.self) (stand (g.K.Sink.written c.put-in-Derive.new.sink) (g.K.Sink.faults c.put-in-Derive.new.sink) c.put-in-Derive.new.self) _ _ c.put.ensures
    (gives-then (stand (g.K.Sink.written c.put.new.sink) (g.K.Sink.faults c.put.new.sink) c.put.new.self) (stand (g.K.Sink.written c.put_numbers-in-Derive.new.sink) (g.K.Sink.faults c.put_numbers-in-Derive.new.sink) c.put_numbers-in-Derive.new.self) (stand (g.K.Sink.written c.put-in-Derive.new.sink) (g.K.Sink.faults c.put-in-Derive.new.sink) c.put-in-Derive.new.self) _ _
    (gives-as _ _ _ _ (ap (flat_map (λ z. signed_decimal z ++ 32 ∷ [])) c.hints.ensures.same) c.put_numbers-in-Derive.ensures)
    c.put-in-Derive.ensures))))

pub returns-in-Delete : goal.returns-in-Delete
returns-in-Delete g c =
    gives-as (stand (g.K.Sink.written c.args.sink.now) (g.K.Sink.faults c.args.sink.now) c.args.page.now) (stand (g.K.Sink.written c.put-in-Delete-2.new.sink) (g.K.Sink.faults c.put-in-Delete-2.new.sink) c.put-in-Delete-2.new.self) _ _
    (delete-text _ ∙ ap (λ p. line (proof_words p)) (sym c.in-Delete.is))
    (gives-then (stand (g.K.Sink.written c.args.sink.now) (g.K.Sink.faults c.args.sink.now) c.args.page.now) (stand (g.K.Sink.written c.put-in-Delete.new.sink) (g.K.Sink.faults c.put-in-Delete.new.sink) c.put-in-Delete.new.self) (stand (g.K.Sink.written c.put-in-Delete-2.new.sink) (g.K.Sink.faults c.put-in-Delete-2.new.sink) c.put-in-Delete-2.new.self) _ _ c.put-in-Delete.ensures
    (gives-then (stand (g.K.Sink.written c.put-in-Delete.new.sink) (g.K.Sink.faults c.put-in-Delete.new.sink) c.put-in-Delete.new.self) (stand (g.K.Sink.written c.put_numbers-in-Delete.new.sink) (g.K.Sink.faults c.put_numbers-in-Delete.new.sink) c.put_numbers-in-Delete.new.self) (stand (g.K.Sink.written c.put-in-Delete-2.new.sink) (g.K.Sink.faults c.put-in-Delete-2.new.sink) c.put-in-Delete-2.new.self) _ _
    (gives-as _ _ _ _ (ap (flat_map (λ n. decimal n ++ 32 ∷ [])) c.ids.ensures.same) c.put_numbers-in-Delete.ensures)
    c.put-in-Delete-2.ensures))
