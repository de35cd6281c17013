-- A number has one whole root.
use Rattle.std.proofs.Common.{◌≡◌, ℕ, ◌+◌, ◌≤◌, arith, inl, inr}
use Rattle.std.proofs.lemmas.Nat.{mul-le}
use Rattle.std.proofs.lemmas.Bool.{cases_lt}
use Rattle.hp_model.specs.Laws.{IsRoot}

not_above : (n r s : ℕ) → IsRoot n r → IsRoot n s → s ≤ r
not_above n r s first second = elim (cases_lt r s) [
  | inl less ↦
      let next : r + 1 ≤ s = omega arith in
      absurd (omega (arith, first.next_is_greater, second.square_fits, mul-le (r + 1) (r + 1) s s next next))
  | inr right ↦ right
]

pub one_root : (n r s : ℕ) → IsRoot n r → IsRoot n s → r ≡ s
one_root n r s first second = omega (arith, not_above n r s first second, not_above n s r second first)
