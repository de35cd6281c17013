use Rattle.jd_model.proofs.ProblemBack.{problem-back}
use Rattle.jd_model.proofs.laws.problems_read_back.Goals as goal

pub returns : goal.returns
returns c = problem-back
