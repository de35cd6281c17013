use Rattle.std.proofs.Common.{◌≡◌, suc, ◌+◌, ◌++◌, false, length, take, sym, ap, ◌∙◌, subst, arith, append_assoc}
use Rattle.jd_circuit.specs.declared.literals.Lit.TheVariants.{Const}
use Rattle.jd_circuit.specs.declared.literals.Gate.TheVariants.{And}
use Rattle.jd_circuit.specs.Net.{IsWired}
use Rattle.jd_books.specs.Clauses.{gates_clauses, truths_clauses, truth_clauses}
use Rattle.jd_leaves.proofs.Pushing.{gate-small, gate-turn, truth-turn, guard-small, last-small, taken-all, truths-last}
use Rattle.jd_leaves.proofs.leaf.Leaf.clauses.Goals as goal

pub push_gate-requires-clause-plain : goal.push_gate-requires-clause-plain
push_gate-requires-clause-plain c =
    let l = c.args.self.now in
    let s = c.as_slice-gate-items.result.now in
    let same = c.as_slice-gate-items.ensures in
    gate-small l.inputs s c.loop-gate.gate-index (And (Const false) (Const false)) (omega (arith, c.loop-gate-test.true)) (subst (IsWired l.inputs) (sym same) l.wired)
    (omega (arith, l.few, ap length same))

pub loop-gate-preserved : goal.loop-gate-preserved
loop-gate-preserved c =
    let l = c.args.self.now in
    let i = c.loop-gate.invariant in (
      omega (arith, i.0),
      gate-turn l.gates c.as_slice-gate-items.result.now l.inputs c.loop-gate.own c.loop-gate.gate-index (And (Const false) (Const false)) c.loop-gate.clauses c.push_gate.new.clauses
          c.as_slice-gate-items.ensures i.0 i.1 c.in_ok-push_gate.ensures (omega (arith, c.loop-gate-test.true)),
    )

pub push_truth-requires : goal.push_truth-requires
push_truth-requires c =
    let l = c.args.self.now in
    guard-small (l.inputs + length l.gates) l.guards c.as_slice-guard-items.result.now l.diff c.loop-guard.guard-index (Const false) c.as_slice-guard-items.ensures l.literals l.few
    (omega (arith, c.loop-guard-test.true))

pub loop-guard-preserved : goal.loop-guard-preserved
loop-guard-preserved c =
    let l = c.args.self.now in
    truth-turn (gates_clauses (suc l.inputs) l.gates) l.guards c.as_slice-guard-items.result.now c.loop-guard.guard-index (Const false) c.loop-guard.clauses c.push_truth.new.clauses
    c.as_slice-guard-items.ensures c.loop-guard.invariant c.in_ok-push_truth.ensures (omega (arith, c.loop-guard-test.true))

pub push_truth-requires-2 : goal.push_truth-requires-2
push_truth-requires-2 c =
    let l = c.args.self.now in
    last-small (l.inputs + length l.gates) l.guards l.diff l.literals l.few

pub returns : goal.returns
returns c =
    let l = c.args.self.now in
    let front = gates_clauses (suc l.inputs) l.gates in
    let all : take c.loop-guard.guard-index l.guards ≡ l.guards =
    taken-all l.guards c.as_slice-guard-items.result.now c.loop-guard.guard-index c.as_slice-guard-items.ensures (omega (arith, c.loop-guard-test.false)) in
    c.in_ok-push_truth-2.ensures ∙ ap (λ r. r ++ truth_clauses l.diff) (c.loop-guard.invariant ∙ ap (λ r. front ++ truths_clauses r) all)
    ∙ append_assoc front (truths_clauses l.guards) (truth_clauses l.diff) ∙ ap (λ r. front ++ r) (sym (truths-last l.guards l.diff))
