use Rattle.std.proofs.Common.{List, ◌++◌, take}
use Rattle.jd_model.specs.Problems.{Problem}
use Rattle.jd_trees.specs.declared.CertEvent.{CertEvent}
use Rattle.jd_trees.specs.Events.{begun_events, node_events}
use Rattle.jd_trees.specs.Trees.{node}
use Rattle.jd_check.specs.Events.{BeginsTree, IsShort}
use Rattle.jd_check.specs.Runs.{IsChecking}
use Rattle.jd_check.proofs.whole.take_leaf.Given as goal

abbrev pub invariant-loop-line : goal.invariant-loop-line
invariant-loop-line g l = (p : Problem) (events : List CertEvent) → IsChecking p events l.fn.run → BeginsTree (events ++ node_events (node l.fn.kind l.log)) → IsShort events
    → IsChecking p (events ++ begun_events l.fn.kind (take l.line-index l.log)) l.run
