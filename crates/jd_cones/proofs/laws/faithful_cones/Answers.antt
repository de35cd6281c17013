use Rattle.jd_cones.proofs.Faithful.{faithful-cone}
use Rattle.jd_cones.proofs.laws.faithful_cones.Goals as goal

pub returns : goal.returns
returns c = faithful-cone
