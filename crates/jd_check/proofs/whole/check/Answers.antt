use Rattle.std.proofs.Common.{◌≡◌, ◌+◌, ◌<◌, ◌≤◌, ◌++◌, length, take, get_or, sym, ap, ◌∙◌, subst}
use Rattle.std.proofs.lemmas.List.{take_all}
use Rattle.jd_problem.specs.Problems.{problem_of}
use Rattle.jd_trees.specs.Events.{events_of, node_events}
use Rattle.jd_check.specs.Events.{BeginsTree}
use Rattle.jd_check.specs.Runs.{IsChecking}
use Rattle.jd_check.proofs.Hearing.{node-heard, nodes-begin, nodes-short, tree-begins}
use Rattle.jd_check.proofs.whole.check.Goals as goal

pub loop-node-init : goal.loop-node-init
loop-node-init g c = λ tree same. c.in_ok-run.ensures.checking

pub loop-node-preserved : goal.loop-node-preserved
loop-node-preserved g c = λ tree e.
    let nodes = c.args.cert.now in
    let k = c.loop-node.node-index in
    let n = c.node-item.result in
    let inside : k < length nodes = subst (λ ns. k < length ns) c.nodes-node-items.ensures.same c.loop-node-test.true in
    let same : events_of (take k nodes) ++ node_events n ≡ events_of (take (k + 1) nodes) = ap (λ m. events_of (take k nodes) ++ node_events m) (c.node-item.is ∙ ap (λ ns. get_or ns k n) c.nodes-node-items.ensures.same) ∙ node-heard nodes k n inside in
    subst (λ es. IsChecking (problem_of c.args.problem.now) es c.take_node.new.run) same
    (c.in_ok-take_node.ensures (problem_of c.args.problem.now) (events_of (take k nodes)) (c.loop-node.invariant tree e)
    (subst BeginsTree (sym same) (nodes-begin nodes (k + 1) (subst (λ ns. BeginsTree (events_of ns)) e (tree-begins tree)))) (nodes-short (take k nodes)))

pub returns : goal.returns
returns g c = λ tree e.
    let nodes = c.args.cert.now in
    let k = c.loop-node.node-index in
    c.in_ok-checked.ensures.checked (problem_of c.args.problem.now) tree
    (subst (λ ns. IsChecking (problem_of c.args.problem.now) (events_of ns) c.loop-node.run) (take_all k nodes (subst (λ ns. length ns ≤ k) c.nodes-node-items.ensures.same c.loop-node-test.false) ∙ sym e) (c.loop-node.invariant tree e))
