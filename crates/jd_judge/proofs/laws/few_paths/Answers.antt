use Rattle.jd_judge.proofs.Pigeons.{few-paths}
use Rattle.jd_judge.proofs.laws.few_paths.Goals as goal

pub returns : goal.returns
returns c = few-paths
