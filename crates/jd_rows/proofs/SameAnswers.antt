-- Answers whose parts are the same.
use Rattle.std.proofs.Common.{◌≡◌, ℕ, Bool, refl}
use Rattle.std.specs.Prelude.{Some, None}
use Rattle.hp_model.specs.declared.Answer.{Answer}

pub same_answer : (p q : ℕ) (k l o r : Bool) → p ≡ q → k ≡ l → o ≡ r
    → ◌≡◌ {A = Answer} (record { pattern = p; carry = Some k; range = Some o }) (record { pattern = q; carry = Some l; range = Some r })
same_answer p q k l o r e f g = rw (e, f, g) refl

pub same_plain : (p q : ℕ) → p ≡ q → ◌≡◌ {A = Answer} (record { pattern = p; carry = None; range = None }) (record { pattern = q; carry = None; range = None })
same_plain p q e = rw e refl
