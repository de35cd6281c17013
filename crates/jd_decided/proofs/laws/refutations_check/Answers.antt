use Rattle.jd_decided.proofs.Refuted.{refutation-right}
use Rattle.jd_decided.proofs.laws.refutations_check.Goals as goal

pub returns : goal.returns
returns c = refutation-right
