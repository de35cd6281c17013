use Rattle.jd_generated.proofs.Agreement.{generated-ask-once}
use Rattle.jd_generated.proofs.laws.generated_routines_ask_once.Goals as goal

pub returns : goal.returns
returns c = generated-ask-once
