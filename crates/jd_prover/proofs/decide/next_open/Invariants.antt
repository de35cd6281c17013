use Rattle.std.proofs.Common.{◌≡◌, ◌<◌, ◌≤◌, ◌-◌, ◌+◌, ℕ, pos, true}
use Rattle.jd_proving.specs.Propagation.{has_value}
use Rattle.jd_prover.proofs.decide.next_open.Given as goal

abbrev pub invariant-variable : goal.invariant-variable
invariant-variable l = record {
  from : l.cursor ≤ l.below;
  valued : (v : ℕ) → l.cursor < v → v < l.below + 1 → has_value l.trail (pos v) ≡ true;
}

abbrev pub decreases-variable : goal.decreases-variable
decreases-variable l = l.inputs - l.below
