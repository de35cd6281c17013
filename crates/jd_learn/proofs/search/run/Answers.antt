use Rattle.jd_learn.proofs.Growing.{learning-grows}
use Rattle.jd_learn.proofs.Turning.{ended, watched-of}
use Rattle.jd_learn.proofs.search.run.Goals as goal

pub returns-clause-ended : goal.returns-clause-ended
returns-clause-ended c =
    let cs = c.args._clauses.now in
    let s = c.args.solver.now in
    let n = c.propagate.new in
    let e = c.in_ok-found.ensures in
    let f = c.in_ok-found.found in
    let w = watched-of s.long n.firsts.items n.seconds.items n.lists.items n.trail f e.propagated in
    ended cs (record s { firsts = n.firsts; seconds = n.seconds; lists = n.lists; trail = n.trail; reasons = n.reasons }) f
    (learning-grows cs s n.firsts n.seconds n.lists n.trail n.reasons c.requires.learning w e.grows e.saved e.reasons) e.propagated
