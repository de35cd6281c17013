use Rattle.std.proofs.Common.{◌++◌, sym, ap, ◌∙◌, subst}
use Rattle.jd_trees.specs.declared.Node.TheVariants.{Leaf, Cut}
use Rattle.jd_trees.specs.Events.{node_events}
use Rattle.jd_check.specs.Events.{BeginsTree}
use Rattle.jd_check.specs.Runs.{IsChecking}
use Rattle.jd_check.proofs.whole.take_node.Goals as goal

pub returns-in_ok-hear-in-Fork : goal.returns-in_ok-hear-in-Fork
returns-in_ok-hear-in-Fork g c = λ p events h begins short.
    subst (λ n. IsChecking p (events ++ node_events n) c.hear.new.self) (sym c.in-Fork.is)
    (c.in_ok-hear-in-Fork.ensures.taken p events h (subst (λ n. BeginsTree (events ++ node_events n)) c.in-Fork.is begins) short)

pub returns-in_ok-take_leaf-in-Leaf : goal.returns-in_ok-take_leaf-in-Leaf
returns-in_ok-take_leaf-in-Leaf g c = λ p events h begins short.
    let same = ap (λ l. Leaf l) c.lines.ensures.same ∙ sym c.in-Leaf.is in
    subst (λ n. IsChecking p (events ++ node_events n) c.take_leaf.new.run) same
    (c.in_ok-take_leaf-in-Leaf.ensures p events h (subst (λ n. BeginsTree (events ++ node_events n)) (sym same) begins) short)

pub returns-in_ok-take_leaf-in-Cut : goal.returns-in_ok-take_leaf-in-Cut
returns-in_ok-take_leaf-in-Cut g c = λ p events h begins short.
    let same = ap (λ l. Cut l) c.lines-in-Cut.ensures.same ∙ sym c.in-Cut.is in
    subst (λ n. IsChecking p (events ++ node_events n) c.take_leaf-in-Cut.new.run) same
    (c.in_ok-take_leaf-in-Cut.ensures p events h (subst (λ n. BeginsTree (events ++ node_events n)) (sym same) begins) short)
