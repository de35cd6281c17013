-- The greatest number that can be entered in DEC in a signed mode.
use Rattle.std.proofs.Common.{◌≡◌, ℕ, suc, ◌-◌, ◌*◌, ◌^◌, ◌≤◌, refl, ap, arith}
use Rattle.std.proofs.Math.Nat.{pow-suc}
use Rattle.hp_model.specs.State.{Control}
use Rattle.hp_model.specs.ControlStep.{greatest_entry}
use Rattle.hp_model.specs.declared.Mode.{Mode}
use Rattle.hp_model.specs.declared.Mode.TheVariants.{Unsigned, Ones, Twos}
use Rattle.hp_model.specs.declared.Base.TheVariants.{Dec}

pub double_half : (w : ℕ) → 1 ≤ w → 2 ^ w ≡ 2 * 2 ^ (w - 1)
double_half w h = let e : w ≡ suc (w - 1) = omega arith in omega (arith, ap (λ k. 2 ^ k) e, pow-suc 2 (w - 1))

pub greatest_dec : (m : Mode) (c : Control) → c.mode ≡ m → c.base ≡ Dec → (m ≡ Unsigned → ⊥) → 2 ^ (c.size - 1) - 1 ≡ greatest_entry c
greatest_dec Unsigned c e b n = absurd (n refl)
greatest_dec Ones c e b n = rw (e, b) refl
greatest_dec Twos c e b n = rw (e, b) refl
