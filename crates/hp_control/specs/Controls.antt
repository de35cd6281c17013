-- Control with the program that it stands in, and one operation done to it.
use Rattle.std.specs.Prelude.{◌≡◌, ◌⊎◌, ℕ, ◌+◌, ◌^◌, ◌<◌, ◌≤◌, Bool, Option, List, length, unwrap_or, All}
use Rattle.hp_model.specs.declared.Stop.{Stop}
use Rattle.hp_model.specs.State.{Control as ControlState}
use Rattle.hp_model.specs.Memory.{Memory}
use Rattle.hp_model.specs.Operations.{Operation}
use Rattle.hp_model.specs.Operations as ops
use Rattle.hp_model.specs.Questions.{IsComplete}
use Rattle.hp_model.specs.ControlStep.{control_step, error_of, size_given}
use Rattle.hp_ops.specs.declared.op.Op.{Op}
use Rattle.hp_ops.specs.declared.op.Op.TheVariants as op
use Rattle.hp_ops.specs.declared.groups.Setting.TheVariants as setting
use Rattle.hp_control.specs.declared.control.Control.{Control}

-- what control sees of a program: the bytes of memory, the codes of the lines, and the blocks that belong to them
pub record Listing : Type 0 where
  pub bytes : ℕ
  pub codes : List ℕ
  pub blocks : ℕ

abbrev pub listing_of : Memory → Listing
listing_of m = record { bytes = m.bytes; codes = m.program; blocks = m.blocks }

abbrev pub control_of : Control → Listing → ControlState
control_of c listing = record {
  bytes = listing.bytes;
  size = c.size.bits;
  mode = c.mode;
  base = c.base;
  line = c.line;
  program = listing.codes;
  blocks = listing.blocks;
  calls = c.calls;
  lift = c.lift;
  entry = c.entry;
  window = c.window;
}

-- what control keeps
pub record InBounds (c : Control) (listing : Listing) : Type 0 where
  pub window : c.window ≤ 7
  pub line : c.line ≤ length listing.codes + 1
  pub calls : All (λ line. (1 ≤ line) × (line ≤ length listing.codes + 1)) c.calls
  pub entry : unwrap_or c.entry 0 < 2 ^ c.size.bits

-- these are the answers to exactly what an operation asks
abbrev pub IsAnswered : Control → Listing → Operation → List Bool → Type 0
IsAnswered c listing op given = IsComplete (control_of c listing) op given

-- the error of an operation, if it errs
abbrev pub error_in : Control → Listing → Operation → List Bool → Option ℕ
error_in c listing op given = error_of (control_of c listing) op given

-- a subroutine is called from a line from 1 on, to which it returns
abbrev pub IsFromALine : Operation → ℕ → Type 0
IsFromALine (ops.gosub target) line = 1 ≤ line
IsFromALine _ line = Unit {0}

-- one operation, done to control
pub record Does (old new : Control) (listing : Listing) (op : Operation) (given : List Bool) (stop : Stop) : Type 0 where
  pub step : control_step (control_of old listing) op given ≡ (control_of new listing, stop)
  pub bounds : InBounds new listing

-- the word size after an operation that doesn't err
abbrev pub size_after : Operation → List Bool → ℕ → ℕ
size_after ops.set_size given w = size_given given
size_after _ given w = w

-- the word size after any operation: WSIZE alone changes it, unless it errs
abbrev pub HasSize : Op → List Bool → ℕ → ℕ → Type 0
HasSize (op.Setting setting.Size) given old new = (new ≡ old) ⊎ (new ≡ size_given given)
HasSize _ given old new = new ≡ old
