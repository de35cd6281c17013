use Rattle.jd_trees.proofs.Events.{events-are-trees}
use Rattle.jd_trees.proofs.laws.events_are_trees.Goals as goal

pub returns : goal.returns
returns c = events-are-trees
