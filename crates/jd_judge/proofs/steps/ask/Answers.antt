use Rattle.std.proofs.Common.{sym, subst}
use Rattle.jd_leaves.specs.Views.{leaf_of}
use Rattle.jd_proving.specs.Proving.{AreDecided}
use Rattle.jd_decided.proofs.Decided.{decided}
use Rattle.jd_judge.proofs.steps.ask.Goals as goal

pub prove-requires-clause-decided : goal.prove-requires-clause-decided
prove-requires-clause-decided c =
    let l = c.args.leaf.now in
    subst (λ cs. AreDecided cs l.inputs) (sym c.in_ok-clauses.ensures) (decided (leaf_of l) (record { gates = l.wired; literals = l.literals }))
