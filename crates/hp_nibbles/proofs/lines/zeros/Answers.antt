use Rattle.std.proofs.Common.{◌≡◌, ℕ, zero, suc, get_or, replicate, refl}
use Rattle.hp_nibbles.specs.declared.TheConstants.{ROOM}
use Rattle.hp_nibbles.proofs.lines.zeros.Goals as goal

zero_at : (n b : ℕ) → get_or {A = ℕ} (replicate n 0) b 0 ≡ 0
zero_at zero b = refl
zero_at (suc n) zero = refl
zero_at (suc n) (suc b) = zero_at n b

pub returns : goal.returns
returns c = λ b. zero_at ROOM b
