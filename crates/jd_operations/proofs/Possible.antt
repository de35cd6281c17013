-- Where an operation doesn't err, its answers name a register or a word size.
use Rattle.std.proofs.Common.{◌≡◌, Bool, List, None}
use Rattle.hp_model.specs.Operations.{Operation}
use Rattle.hp_model.specs.Operations as ops
use Rattle.hp_model.specs.State.{Control, register_nibbles}
use Rattle.hp_model.specs.Questions.{IsComplete}
use Rattle.hp_model.specs.ControlStep.{error_of}
use Rattle.jd_content.proofs.Told.{place_inside, size_fine}
use Rattle.jd_operations.specs.Done.{IsPossible}

pub possible : (c : Control) (op : Operation) (given : List Bool) → IsComplete c op given → error_of c op given ≡ None → IsPossible c.size (register_nibbles c.bytes c.blocks) op given
possible c (ops.store place) given whole e = place_inside c place given e
possible c (ops.recall place) given whole e = place_inside c place given e
possible c ops.exchange_through given whole e = place_inside c ops.through_index given e
possible c ops.set_size given whole e = size_fine c given whole e
possible c _ given whole e = tt
