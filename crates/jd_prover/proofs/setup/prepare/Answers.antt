use Rattle.jd_prover.proofs.setup.prepare.Goals as goal

pub take_all-requires-clause-begun : goal.take_all-requires-clause-begun
take_all-requires-clause-begun c = c.begin-solver.ensures c.args.clauses.now
