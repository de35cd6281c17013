-- Quotients by signs and magnitudes.
use Rattle.std.specs.Prelude.{◌≡◌, ℕ, Bool, ℤ, int_div}
use Rattle.hp_model.specs.WordOperations.{rest_of}
use Rattle.jd_rows.specs.Answers.{with_sign}

-- a quotient cut towards zero and what it leaves, by signs and magnitudes
pub record DividedBy (dividend divisor : ℤ) (s : Bool) (q : ℕ) (t : Bool) (r : ℕ) : Type 0 where
  pub quotient : int_div dividend divisor ≡ with_sign s q
  pub rest : rest_of dividend divisor ≡ with_sign t r
