-- Complete answers are at most twelve.
use Rattle.std.proofs.Common.{ℕ, ◌≤◌, List, Bool, true, false, nat_le, length, if◌then◌else◌, arith, lit≤}
use Rattle.hp_model.specs.State.{Control, index_bits}
use Rattle.hp_model.specs.Operations.{Operation}
use Rattle.hp_model.specs.Questions.{IsComplete}
use Rattle.hp_model.proofs.CompleteAnswers.{complete-few}

index-few : (bytes : ℕ) → index_bits bytes ≤ 11
index-few bytes = by_size (nat_le bytes 203)
  where
    by_size : (t : Bool) → (if t then 9 else 11) ≤ 11
    by_size true = lit≤ tt
    by_size false = lit≤ tt

pub at_most_twelve : (c : Control) (op : Operation) (given : List Bool) → IsComplete c op given → length given ≤ 12
at_most_twelve c op given h = omega (arith, complete-few c op given h, index-few c.bytes)
