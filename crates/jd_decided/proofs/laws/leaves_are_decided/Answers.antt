use Rattle.jd_decided.proofs.Decided.{decided}
use Rattle.jd_decided.proofs.laws.leaves_are_decided.Goals as goal

pub returns : goal.returns
returns c = decided
