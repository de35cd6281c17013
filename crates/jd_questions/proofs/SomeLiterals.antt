-- Facts on the literals of questions.
use Rattle.std.proofs.Common.{◌≡◌, ℕ, ◌-◌, ◌/◌, ◌%◌, ◌^◌, ◌<◌, ◌≤◌, ◌==◌, true, false, not, nat_le, nat_lt, refl, arith}
use Rattle.std.specs.Prelude.{ℤ, int_le, int_lt, nat_abs, pos}
use Rattle.std.proofs.lemmas.Bool.Decides.{nat_tests}
use Rattle.std.proofs.lemmas.Int.{ints}
use Rattle.std.proofs.Math.Nat.{div-eq_of_lt, one-le-pow, pow-le-pow_right}
use Rattle.hp_model.specs.declared.Mode.{Mode}
use Rattle.hp_model.specs.declared.Mode.TheVariants.{Ones, Twos, Unsigned}
use Rattle.hp_model.specs.State.{Control, Data}
use Rattle.hp_model.specs.Words.{bit, value}
use Rattle.hp_model.specs.Questions.{holds}
use Rattle.hp_ops.specs.declared.groups.Loop.{Loop}
use Rattle.hp_ops.specs.declared.groups.Loop.TheVariants as loop
use Rattle.jd_comparisons.specs.Counts.{counted}
use Rattle.jd_questions.specs.Questions.{count_of}

-- ---- bits

-- a bit above a number's end
pub bit_past : (n w k : ℕ) → n < 2 ^ w → w ≤ k → false ≡ bit n k
bit_past n w k small past =
    let power : 2 ^ w ≤ 2 ^ k = pow-le-pow_right {n = 2} (omega arith) past in
    let none : n / 2 ^ k ≡ 0 = div-eq_of_lt (omega arith) in
    rw none refl

pub from_65 : (n : ℕ) → nat_le 65 n ≡ nat_lt 64 n
from_65 n = grind (arith, nat_tests)

-- ---- values

pub value_of_zero : (w : ℕ) (mode : Mode) → value w mode 0 ≡ pos 0
value_of_zero w Unsigned = refl
value_of_zero w Ones =
    let above : nat_lt 0 (2 ^ (w - 1)) ≡ true = (let power = one-le-pow (w - 1) 2 (omega arith) in grind (arith, nat_tests)) in
    rw above refl
value_of_zero w Twos =
    let above : nat_lt 0 (2 ^ (w - 1)) ≡ true = (let power = one-le-pow (w - 1) 2 (omega arith) in grind (arith, nat_tests)) in
    rw above refl

pub not_below : (x y : ℤ) → not (int_lt y x) ≡ int_le x y
not_below x y = grind (arith, ints, nat_tests)

-- ---- counting

pub count_holds : (op : Loop) (k : Control) (d : Data) → (nat_abs (value k.size k.mode (counted op k.size k.mode (d.index % 2 ^ k.size))) == 0) ≡ holds (count_of op) k d
count_holds loop.Decrement k d = refl
count_holds loop.Increment k d = refl
