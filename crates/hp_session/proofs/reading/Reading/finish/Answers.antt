use Rattle.std.proofs.Common.{◌∙◌, ap, sym, arith}
use Rattle.hp_session.specs.Progress.{Progress}
use Rattle.hp_session.proofs.Parts.{ended}
use Rattle.hp_session.proofs.Steps.{bad_at_end, closed-finishes, open-finishes, open-cut}
use Rattle.hp_session.proofs.reading.Reading.finish.Goals as goal
use Rattle.hp_session.proofs.reading.Reading.finish.Goals.{then-self+in_default-end_line, else-self}

pub returns-in-Err-clause-finishes : goal.returns-in-Err-clause-finishes
returns-in-Err-clause-finishes g c = bad_at_end _ _ _ (omega (arith, c.requires.word)) c.in-Err.ensures.0 c.in-Err.ensures.1

pub end_line-requires : goal.end_line-requires
end_line-requires g c = omega (arith, c.requires.line, ap (λ (r : Progress). r.line) (ended c.args.self c.end_word.new.self c.in_default.ensures))

pub returns-in-Err-end_line-clause-finishes : goal.returns-in-Err-end_line-clause-finishes
returns-in-Err-end_line-clause-finishes g c = open-cut _ _ _ _ _ c.in_default.ensures (ap (λ (r : Progress). r.begun) (sym c.self.view_is) ∙ c.if-self.true) c.in-Err-end_line.ensures.cut

pub returns-clause-finishes : goal.returns-clause-finishes
returns-clause-finishes g c =
    let begun = ap (λ (r : Progress). r.begun) (sym c.self.view_is) in
    elim c.if-self.branch [
      | then-self+in_default-end_line w ↦ rw w.sink-is (open-finishes c.args.self c.end_word.new.self _ _ c.in_default.ensures (begun ∙ w.if-self.true) w.in_default-end_line.ensures.text)
      | else-self w ↦ rw w.sink-is (closed-finishes c.args.self c.end_word.new.self _ c.in_default.ensures (begun ∙ w.if-self.false))
    ]
