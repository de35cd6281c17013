use Rattle.jd_check.proofs.Answering.{checked-sound}
use Rattle.jd_check.proofs.laws.checked_is_sound.Goals as goal

pub returns : goal.returns
returns c = checked-sound
