use Rattle.jd_learn.proofs.Growing.{learning-begun}
use Rattle.jd_learn.proofs.search.search.Goals as goal

pub run-requires : goal.run-requires
run-requires c = learning-begun c.args.clauses.now c.args.taken c.requires.taken
