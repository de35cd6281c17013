use Rattle.jd_judge.proofs.Pigeons.{complete}
use Rattle.jd_judge.proofs.laws.completeness.Goals as goal

pub returns : goal.returns
returns c = complete
