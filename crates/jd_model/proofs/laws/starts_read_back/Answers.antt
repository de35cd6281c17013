use Rattle.jd_model.proofs.StartBack.{start-back}
use Rattle.jd_model.proofs.laws.starts_read_back.Goals as goal

pub returns : goal.returns
returns c = λ p s is. start-back p s is.size_most
