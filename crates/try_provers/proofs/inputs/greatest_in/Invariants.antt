use Rattle.std.proofs.Common.{◌≤◌, ℤ, take}
use Rattle.std.specs.Prelude.{nat_abs}
use Rattle.jd_propagate.specs.Quiet.{IsIn}
use Rattle.try_provers.proofs.inputs.greatest_in.Given as goal

abbrev pub invariant-loop-l : goal.invariant-loop-l
invariant-loop-l l = record {
  kept : l.least ≤ l.greatest;
  all : (m : ℤ) → IsIn (take l.l-index l.clause) m → nat_abs m ≤ l.greatest;
}
