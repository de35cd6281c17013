use Rattle.std.proofs.Common.{◌≤◌, ◌<◌, ℕ, ℤ, [], get_or}
use Rattle.std.specs.Prelude.{nat_abs}
use Rattle.jd_logic.specs.Literals.{AreLiterals}
use Rattle.jd_propagate.specs.Quiet.{IsIn}
use Rattle.try_provers.proofs.inputs.inputs_of.Given as goal

abbrev pub invariant-loop-at : goal.invariant-loop-at
invariant-loop-at l = record {
  literals : (k : ℕ) → k < l.at → AreLiterals (get_or l.clauses k []);
  small : (k : ℕ) → k < l.at → (m : ℤ) → IsIn (get_or l.clauses k []) m → nat_abs m ≤ l.greatest;
}
