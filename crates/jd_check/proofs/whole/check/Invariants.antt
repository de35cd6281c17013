use Rattle.std.proofs.Common.{◌≡◌, take}
use Rattle.jd_problem.specs.Problems.{problem_of}
use Rattle.jd_trees.specs.Events.{events_of}
use Rattle.jd_trees.specs.Trees.{Tree, preorder}
use Rattle.jd_check.specs.Runs.{IsChecking}
use Rattle.jd_check.proofs.whole.check.Given as goal

abbrev pub invariant-loop-node : goal.invariant-loop-node
invariant-loop-node g l = (tree : Tree) → preorder tree ≡ l.cert → IsChecking (problem_of l.problem) (events_of (take l.node-index l.cert)) l.run
