use Rattle.std.proofs.Common.{◌≡◌, ◌-◌, ◌/◌, ◌^◌, arith, refl, ◌∙◌}
use Rattle.std.proofs.Math.Nat.{one-le-pow}
use Rattle.hp_control.specs.Controls.{control_of}
use Rattle.hp_control.proofs.Entries.{double_half, greatest_dec}
use Rattle.hp_control.proofs.digits.greatest_entry.Goals as goal

pub returns-in-Dec : goal.returns-in-Dec
returns-in-Dec c =
    let w = c.args.control.now.size.bits in
    let halves = double_half w c.args.control.now.size.at_least_one in
    let half : c.mask-mask.result / 2 ≡ 2 ^ (w - 1) - 1 = omega (arith, one-le-pow (w - 1) 2 (omega arith)) in
    record {
      value = λ listing. half ∙ greatest_dec _ (control_of c.args.control.now listing) refl c.in-Dec.is c.in_default.not-Unsigned;
      bound = omega (arith, one-le-pow (w - 1) 2 (omega arith));
    }
