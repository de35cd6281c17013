use Rattle.std.proofs.Common.{sym, ◌∙◌, subst}
use Rattle.jd_check.specs.Runs.{IsOpenOrNot, event_of}
use Rattle.jd_check.proofs.EventByEvent.{covers, stays, still, over}
use Rattle.jd_check.proofs.turns.advance.Goals as goal

pub returns-then-is_over-clause-going : goal.returns-then-is_over-clause-going
returns-then-is_over-clause-going g c = λ p events h begins short.
    let old = c.args.going.now in
    stays p events (event_of c.args.event) old.progress old.part old.shape (over old.shape old.progress.whole (sym c.is_over.ensures ∙ c.if-is_over.true)) h

pub at_node-requires-clause-covers : goal.at_node-requires-clause-covers
at_node-requires-clause-covers g c = covers c.args.going.now.shape c.args.going.now.progress.whole (sym c.is_over.ensures ∙ c.if-is_over.false)

pub in_log-requires-clause-covers : goal.in_log-requires-clause-covers
in_log-requires-clause-covers g c = covers c.args.going.now.shape c.args.going.now.progress.whole (sym c.is_over.ensures ∙ c.if-is_over.false)

pub returns-in_ok-at_node-in-None-clause-going : goal.returns-in_ok-at_node-in-None-clause-going
returns-in_ok-at_node-in-None-clause-going g c = λ p events h begins short.
    let old = c.args.going.now in
    c.in_ok-at_node-in-None.ensures.going p events
    (subst (IsOpenOrNot p events old.progress) (sym c.take.ensures.value ∙ c.in-None.is) (still p events old.progress old.part old.shape (sym c.is_over.ensures ∙ c.if-is_over.false) h))
    begins

pub returns-in_ok-in_log-in-Some-clause-going : goal.returns-in_ok-in_log-in-Some-clause-going
returns-in_ok-in_log-in-Some-clause-going g c = λ p events h begins short.
    let old = c.args.going.now in
    c.in_ok-in_log-in-Some.ensures.going p events
    (subst (IsOpenOrNot p events old.progress) (sym c.take.ensures.value ∙ c.in-Some.is) (still p events old.progress old.part old.shape (sym c.is_over.ensures ∙ c.if-is_over.false) h))
    begins short
