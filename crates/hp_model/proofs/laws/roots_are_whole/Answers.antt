use Rattle.hp_model.proofs.Roots.{root-is}
use Rattle.hp_model.proofs.laws.roots_are_whole.Goals as goal

pub returns : goal.returns
returns c = root-is
