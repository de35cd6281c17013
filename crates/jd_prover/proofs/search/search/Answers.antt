use Rattle.jd_prover.proofs.Beginning.{start-begun}
use Rattle.jd_prover.proofs.search.search.Goals as goal

pub run-requires : goal.run-requires
run-requires c = start-begun c.args.clauses.now c.args.inputs c.args.taken c.requires.taken
