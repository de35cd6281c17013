use Rattle.std.proofs.Common.{◌≡◌, suc, ◌+◌, ◌++◌, take}
use Rattle.jd_books.specs.Clauses.{gates_clauses, truths_clauses}
use Rattle.jd_leaves.proofs.leaf.Leaf.clauses.Given as goal

abbrev pub invariant-loop-gate : goal.invariant-loop-gate
invariant-loop-gate l = (l.own ≡ l.self.inputs + l.gate-index) × (l.clauses ≡ gates_clauses (suc l.self.inputs) (take l.gate-index l.self.gates))

abbrev pub invariant-loop-guard : goal.invariant-loop-guard
invariant-loop-guard l = l.clauses ≡ gates_clauses (suc l.self.inputs) l.self.gates ++ truths_clauses (take l.guard-index l.self.guards)
