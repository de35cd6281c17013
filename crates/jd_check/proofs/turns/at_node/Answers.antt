use Rattle.std.proofs.Common.{◌∷◌, ◌++◌, [], inl, inr, sym, ap, subst}
use Rattle.jd_check.specs.Runs.{IsGoing, event_of}
use Rattle.jd_check.proofs.Events.{is_node_event}
use Rattle.jd_check.proofs.EventByEvent.{begun-event, no-node}
use Rattle.jd_check.proofs.turns.at_node.Goals as goal

pub returns-in_ok-branch-in-Fork-clause-going : goal.returns-in_ok-branch-in-Fork-clause-going
returns-in_ok-branch-in-Fork-clause-going g c = λ p events h begins.
    subst (λ e. IsGoing p (events ++ event_of e ∷ []) c.branch-alloc.new.going) (sym c.in-Fork.is) (c.in_ok-branch-in-Fork.ensures.going p events h)

pub returns-in_ok-begin-in-Begin-clause-going : goal.returns-in_ok-begin-in-Begin-clause-going
returns-in_ok-begin-in-Begin-clause-going g c = λ p events h begins.
    subst (λ e. IsGoing p (events ++ event_of e ∷ []) c.begin.new.going) (sym c.in-Begin.is)
    (subst (λ es. IsGoing p (events ++ es) c.begin.new.going) (begun-event c.in-Begin.kind) (c.in_ok-begin-in-Begin.ensures.going p events h))

pub returns-in-Line-clause-going : goal.returns-in-Line-clause-going
returns-in-Line-clause-going g c = λ p events h begins.
    no-node p events c.args.going.now.progress (event_of c.args.event) h begins
    (elim c.in-Line.is [ inl line ↦ ap (λ e. is_node_event (event_of e)) line.1 | inr end ↦ ap (λ e. is_node_event (event_of e)) end ])
