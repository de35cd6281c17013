-- The data stays within the word size, whatever control does.
use Rattle.std.proofs.Common.{ℕ, List, Bool, inl, inr, sym, subst}
use Rattle.hp_words.specs.declared.content.Content.{Content}
use Rattle.hp_ops.specs.declared.op.Op.{Op}
use Rattle.hp_ops.specs.declared.op.Op.TheVariants as op
use Rattle.hp_ops.specs.declared.groups.Setting.TheVariants as setting
use Rattle.hp_control.specs.Controls.{HasSize}
use Rattle.hp_core.specs.Fitting.{Fits, IsCut}

pub still_fits : (o : Op) (given : List Bool) (content : Content) (old new : ℕ) → Fits content old → IsCut o given content → HasSize o given old new → Fits content new
still_fits (op.Setting setting.Size) given content old new fits cut (inl same) = subst (λ w. Fits content w) (sym same) fits
still_fits (op.Setting setting.Size) given content old new fits cut (inr named) = subst (λ w. Fits content w) (sym named) cut
still_fits _ given content old new fits cut same = subst (λ w. Fits content w) (sym same) fits
