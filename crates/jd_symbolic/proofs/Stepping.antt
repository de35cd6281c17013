-- What a symbolic step has from its machine: few answers, and bytes that memory can have.
use Rattle.std.proofs.Common.{◌≤◌, Bool, true, false, nat_le, List, length, arith, lit≤}
use Rattle.std.specs.Prelude.{if◌then◌else◌}
use Rattle.hp_model.specs.declared.Extent.{Extent}
use Rattle.hp_model.specs.declared.Extent.TheVariants.{Standard, Large}
use Rattle.hp_model.specs.Operations.{Operation}
use Rattle.hp_model.specs.State.{Control, index_bits, large_bytes, memory_bytes}
use Rattle.hp_model.specs.Questions.{IsComplete}
use Rattle.hp_model.proofs.CompleteAnswers.{complete-few}

pub bounded : (extent : Extent) → memory_bytes extent ≤ large_bytes
bounded Standard = lit≤ tt
bounded Large = lit≤ tt

index_bits_by : (t : Bool) → (if t then 9 else 11) ≤ 11
index_bits_by true = lit≤ tt
index_bits_by false = lit≤ tt

pub few : (c : Control) (op : Operation) (given : List Bool) → IsComplete c op given → length given ≤ 12
few c op given complete =
    let most : index_bits c.bytes ≤ 11 = index_bits_by (nat_le c.bytes 203) in
    omega (arith, complete-few c op given complete)
