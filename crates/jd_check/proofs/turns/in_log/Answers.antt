use Rattle.std.proofs.Common.{◌+◌, ◌<◌, ◌^◌, ◌∷◌, ◌++◌, [], None, Some, inl, inr, refl, sym, ap, ◌∙◌, subst, arith}
use Rattle.jd_check.specs.declared.progress.Open.{Open}
use Rattle.jd_check.specs.declared.going.Event.TheVariants.{End, Line}
use Rattle.jd_check.specs.Runs.{IsWrongOrNot, event_of}
use Rattle.jd_check.proofs.Events.{is_log_event}
use Rattle.jd_check.proofs.EventByEvent.{end-goes, line-goes, no-line, not-begun}
use Rattle.jd_check.proofs.turns.in_log.Goals as goal

pub returns-in_ok-step-in-Line-clause-going : goal.returns-in_ok-step-in-Line-clause-going
returns-in_ok-step-in-Line-clause-going g c = λ p events h begins short.
    let old = c.args.part in
    let run = c.args.going.now.progress in
    let new : Open = record old { check = c.step.new.self } in
    let room : old.check.count + 1 < 2 ^ 64 = omega (arith, h.counted, short) in
    subst (λ e. IsWrongOrNot p (events ++ event_of e ∷ []) run (Some new) c.args.going.now.shape) (sym c.in-Line.is)
    (subst (IsWrongOrNot p (events ++ event_of (Line c.in-Line.line) ∷ []) run (Some new)) (sym c.requires.covers)
    (line-goes p events run old new c.in-Line.line.now h refl (c.in_ok-step-in-Line.ensures.count room) (c.in_ok-step-in-Line.ensures.stepped room)))

pub returns-in_ok-end-in-End-clause-going : goal.returns-in_ok-end-in-End-clause-going
returns-in_ok-end-in-End-clause-going g c = λ p events h begins short.
    let old = c.args.going.now in
    let run = c.end.new.run in
    subst (λ e. IsWrongOrNot p (events ++ event_of e ∷ []) run old.part old.shape) (sym c.in-End.is)
    (subst (λ part. IsWrongOrNot p (events ++ event_of End ∷ []) run part old.shape) (sym c.requires.closed)
    (subst (IsWrongOrNot p (events ++ event_of End ∷ []) run None) (sym c.requires.covers)
    (end-goes p events old.progress run c.args.part h (c.in_ok-end-in-End.ensures.taken p h.nodes h.kind h.log h.part_is))))

pub returns-in-Fork-clause-going : goal.returns-in-Fork-clause-going
returns-in-Fork-clause-going g c = λ p events h begins short.
    no-line p events c.args.going.now.progress c.args.part (event_of c.args.event) h begins
    (elim c.in-Fork.is [ inl fork ↦ ap (λ e. is_log_event (event_of e)) fork | inr begun ↦ ap (λ e. is_log_event (event_of e)) begun.1 ∙ not-begun begun.0 ])
