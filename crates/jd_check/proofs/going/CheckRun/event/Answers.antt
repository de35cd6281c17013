use Rattle.std.proofs.Common.{◌++◌, ◌∷◌, [], sym, subst}
use Rattle.jd_check.specs.Events.{BeginsTree}
use Rattle.jd_check.specs.Runs.{IsChecking}
use Rattle.jd_check.proofs.Events.{no-nothing}
use Rattle.jd_check.proofs.going.CheckRun.event.Goals as goal

pub returns-else-self-clause-taken : goal.returns-else-self-clause-taken
returns-else-self-clause-taken g c = λ p events h begins short. no-nothing events (subst (λ e. BeginsTree (events ++ e ∷ [])) c.in-Nothing.is begins)

pub returns-in_ok-hear-in-Fork-clause-taken : goal.returns-in_ok-hear-in-Fork-clause-taken
returns-in_ok-hear-in-Fork-clause-taken g c = λ p events h begins short.
    subst (λ e. IsChecking p (events ++ e ∷ []) c.hear.new.self) (sym c.in-Fork.is)
    (c.in_ok-hear-in-Fork.ensures.taken p events h (subst (λ e. BeginsTree (events ++ e ∷ [])) c.in-Fork.is begins) short)

pub returns-in_ok-hear-in-Leaf-clause-taken : goal.returns-in_ok-hear-in-Leaf-clause-taken
returns-in_ok-hear-in-Leaf-clause-taken g c = λ p events h begins short.
    subst (λ e. IsChecking p (events ++ e ∷ []) c.hear-in-Leaf.new.self) (sym c.in-Leaf.is)
    (c.in_ok-hear-in-Leaf.ensures.taken p events h (subst (λ e. BeginsTree (events ++ e ∷ [])) c.in-Leaf.is begins) short)

pub returns-in_ok-hear-in-Cut-clause-taken : goal.returns-in_ok-hear-in-Cut-clause-taken
returns-in_ok-hear-in-Cut-clause-taken g c = λ p events h begins short.
    subst (λ e. IsChecking p (events ++ e ∷ []) c.hear-in-Cut.new.self) (sym c.in-Cut.is)
    (c.in_ok-hear-in-Cut.ensures.taken p events h (subst (λ e. BeginsTree (events ++ e ∷ [])) c.in-Cut.is begins) short)

pub returns-in_ok-hear-in-Proof-clause-taken : goal.returns-in_ok-hear-in-Proof-clause-taken
returns-in_ok-hear-in-Proof-clause-taken g c = λ p events h begins short.
    subst (λ e. IsChecking p (events ++ e ∷ []) c.hear-in-Proof.new.self) (sym c.in-Proof.is)
    (c.in_ok-hear-in-Proof.ensures.taken p events h (subst (λ e. BeginsTree (events ++ e ∷ [])) c.in-Proof.is begins) short)

pub returns-in_ok-hear-in-End-clause-taken : goal.returns-in_ok-hear-in-End-clause-taken
returns-in_ok-hear-in-End-clause-taken g c = λ p events h begins short.
    subst (λ e. IsChecking p (events ++ e ∷ []) c.hear-in-End.new.self) (sym c.in-End.is)
    (c.in_ok-hear-in-End.ensures.taken p events h (subst (λ e. BeginsTree (events ++ e ∷ [])) c.in-End.is begins) short)
