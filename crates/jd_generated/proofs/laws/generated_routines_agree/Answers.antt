use Rattle.jd_generated.proofs.Agreement.{generated-agree}
use Rattle.jd_generated.proofs.laws.generated_routines_agree.Goals as goal

pub returns : goal.returns
returns c = generated-agree
