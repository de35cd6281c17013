use Rattle.jd_vectors.proofs.Kept.{Inside-at}
use Rattle.jd_places.proofs.Places.{bit_at}
use Rattle.jd_places.proofs.shifts.lowest.Goals as goal

pub returns-clause-of : goal.returns-clause-of
returns-clause-of c = λ n h. Inside-at n _ _ _ h c.at.ensures

pub returns-clause-meaning : goal.returns-clause-meaning
returns-clause-meaning c = λ val. bit_at val c.args.x.now _ _ c.at.ensures
