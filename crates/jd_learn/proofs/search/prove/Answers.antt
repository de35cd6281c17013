use Rattle.std.proofs.Common.{subst}
use Rattle.jd_prover.specs.declared.setup.Prepared.{Prepared}
use Rattle.jd_prover.specs.Preparing.{IsPrepared}
use Rattle.jd_learn.proofs.search.prove.Goals as goal

pub returns-in-Answered : goal.returns-in-Answered
returns-in-Answered c =
    let P : Prepared → Type 0 = λ p. IsPrepared c.args.clauses.now c.args.inputs p in
    (subst P c.in-Answered.is c.in_ok-proof.ensures) c.args.budget c.requires.some
