use Rattle.jd_decided.proofs.Values.{model-values}
use Rattle.jd_decided.proofs.laws.models_are_values.Goals as goal

pub returns : goal.returns
returns c = model-values
