use Rattle.jd_judge.proofs.Pigeons.{equal-sound}
use Rattle.jd_judge.proofs.laws.equal_is_sound.Goals as goal

pub returns : goal.returns
returns c = equal-sound
