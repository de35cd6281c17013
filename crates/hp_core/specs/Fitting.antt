-- Words within the word size, which WSIZE alone changes.
use Rattle.std.specs.Prelude.{ℕ, ◌^◌, ◌<◌, List, Bool}
use Rattle.hp_model.specs.ControlStep.{size_given}
use Rattle.hp_words.specs.declared.content.Content.{Content}
use Rattle.hp_ops.specs.declared.op.Op.{Op}
use Rattle.hp_ops.specs.declared.op.Op.TheVariants as op
use Rattle.hp_ops.specs.declared.groups.Setting.TheVariants as setting

-- the stack and LAST X are of so many bits
pub record Fits (content : Content) (w : ℕ) : Type 0 where
  pub x : content.x < 2 ^ w
  pub y : content.y < 2 ^ w
  pub z : content.z < 2 ^ w
  pub t : content.t < 2 ^ w
  pub l : content.l < 2 ^ w

-- where an operation sets the word size, the stack and LAST X are of that size
abbrev pub IsCut : Op → List Bool → Content → Type 0
IsCut (op.Setting setting.Size) given content = Fits content (size_given given)
IsCut _ given content = Unit {0}
