use Rattle.std.proofs.Common.{◌∷◌, ◌++◌, [], sym, subst}
use Rattle.jd_trees.specs.declared.CertEvent.TheVariants.{Fork}
use Rattle.jd_check.specs.Runs.{IsWrongOrNot}
use Rattle.jd_check.proofs.EventByEvent.{fork-goes}
use Rattle.jd_check.proofs.turns.branch.Goals as goal

pub returns-clause-going : goal.returns-clause-going
returns-clause-going g c = λ p events h.
    subst (λ part. IsWrongOrNot p (events ++ Fork ∷ []) c.fork.new.run part c.in_ok-shape.shape) (sym c.requires.closed)
    (fork-goes p events c.args.going.now.progress c.fork.new.run c.in_ok-shape.shape h (c.in_ok-shape.ensures.next p h.nodes h.going h.taken))
