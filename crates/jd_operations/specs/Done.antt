-- One operation done to a content.
use Rattle.std.specs.Prelude.{◌≡◌, ℕ, ◌≤◌, Bool, List, None}
use Rattle.hp_model.specs.Operations.{Operation}
use Rattle.hp_model.specs.Operations as ops
use Rattle.hp_model.specs.State.{large_bytes}
use Rattle.hp_model.specs.ControlStep.{error_of}
use Rattle.jd_circuit.specs.Net.{Net}
use Rattle.hp_control.specs.declared.control.Control.{Control}
use Rattle.hp_control.specs.Controls.{Listing, control_of}
use Rattle.jd_content.specs.declared.content.SymContent.{SymContent}
use Rattle.jd_content.specs.Meaning.{Changes}
use Rattle.jd_content.specs.Places.{IsInside, IsSize}

-- where the operation doesn't err, with any program beside control. The new words have w bits
abbrev pub IsDone : Net → Net → Control → Operation → List Bool → ℕ → SymContent → SymContent → Type 0
IsDone old_net net control op given w old new =
    (listing : Listing) → listing.bytes ≤ large_bytes → error_of (control_of control listing) op given ≡ None
    → Changes old_net net (control_of control listing) op given w old new

-- the answers name a register among so many nibbles, at words of w bits, or a word size
abbrev pub IsPossible : ℕ → ℕ → Operation → List Bool → Type 0
IsPossible w nibbles (ops.store place) given = IsInside w nibbles place given
IsPossible w nibbles (ops.recall place) given = IsInside w nibbles place given
IsPossible w nibbles ops.exchange_through given = IsInside w nibbles ops.through_index given
IsPossible w nibbles ops.set_size given = IsSize given
IsPossible w nibbles _ given = Unit {0}
