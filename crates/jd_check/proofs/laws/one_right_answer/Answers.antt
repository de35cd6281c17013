use Rattle.jd_check.proofs.Answering.{one-answer}
use Rattle.jd_check.proofs.laws.one_right_answer.Goals as goal

pub returns : goal.returns
returns c = one-answer
