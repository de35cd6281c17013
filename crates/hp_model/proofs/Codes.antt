-- The code table both ways.
use Rattle.std.proofs.Common.{◌≡◌, ℕ, zero, suc, ◌<◌, Bool, true, ◌&&◌, nat_eq, arith, refl, lit<}
use Rattle.std.proofs.lemmas.Bool.Decides.{nat_tests}
use Rattle.hp_model.specs.declared.Base.{Base}
use Rattle.hp_model.specs.declared.Base.TheVariants.{Hex, Dec, Oct, Bin}
use Rattle.hp_model.specs.declared.Mode.{Mode}
use Rattle.hp_model.specs.declared.Mode.TheVariants.{Unsigned, Ones, Twos}
use Rattle.hp_model.specs.Operations.{Operation, Rotation, Test}
use Rattle.hp_model.specs.Operations as ops
use Rattle.hp_model.specs.Laws.{IsInRange}
use Rattle.hp_model.proofs.Carried.{of_digit, of_set_flag, of_clear_flag, of_test_flag, of_label, of_goto, of_gosub, of_store, of_recall, of_window}
use Rattle.hp_model.specs.Codes.{operation_of, code_of}

-- a test of each number below a bound
abbrev pub passes_below : (ℕ → Bool) → ℕ → Bool
passes_below p zero = true
passes_below p (suc n) = p n && passes_below p n

pub passes_at : (p : ℕ → Bool) (n k : ℕ) → passes_below p n ≡ true → k < n → p k ≡ true
passes_at p zero k h inside = absurd (omega arith)
passes_at p (suc n) k h inside = grind (arith, nat_tests, passes_at p n k)

abbrev pub is_own_code : ℕ → Bool
is_own_code code = nat_eq (code_of (operation_of code)) code

all_codes : passes_below is_own_code 225 ≡ true
all_codes = refl

pub code_of-operation_of : (code : ℕ) → code < 225 → code_of (operation_of code) ≡ code
code_of-operation_of code inside =
    let passes : is_own_code code ≡ true = passes_at is_own_code 225 code all_codes inside in
    grind (arith, nat_tests, passes)

of_rotate : (way : Rotation) → operation_of (code_of (ops.rotate way)) ≡ ops.rotate way
of_rotate ops.left = refl
of_rotate ops.right = refl
of_rotate ops.left_carry = refl
of_rotate ops.right_carry = refl

of_rotate_many : (way : Rotation) → operation_of (code_of (ops.rotate_many way)) ≡ ops.rotate_many way
of_rotate_many ops.left = refl
of_rotate_many ops.right = refl
of_rotate_many ops.left_carry = refl
of_rotate_many ops.right_carry = refl

of_set_base : (base : Base) → operation_of (code_of (ops.set_base base)) ≡ ops.set_base base
of_set_base Hex = refl
of_set_base Dec = refl
of_set_base Oct = refl
of_set_base Bin = refl

of_set_mode : (mode : Mode) → operation_of (code_of (ops.set_mode mode)) ≡ ops.set_mode mode
of_set_mode Unsigned = refl
of_set_mode Ones = refl
of_set_mode Twos = refl

of_test : (condition : Test) → operation_of (code_of (ops.test condition)) ≡ ops.test condition
of_test ops.at_most_y = refl
of_test ops.negative = refl
of_test ops.above_y = refl
of_test ops.positive = refl
of_test ops.not_y = refl
of_test ops.nonzero = refl
of_test ops.equal_y = refl
of_test ops.is_zero = refl

test_below : (condition : Test) → code_of (ops.test condition) < 225
test_below ops.at_most_y = lit< tt
test_below ops.negative = lit< tt
test_below ops.above_y = lit< tt
test_below ops.positive = lit< tt
test_below ops.not_y = lit< tt
test_below ops.nonzero = lit< tt
test_below ops.equal_y = lit< tt
test_below ops.is_zero = lit< tt

-- an operation whose number is in its range has one of the codes, and is the operation of it
pub operation_of-code_of : (op : Operation) → IsInRange op → operation_of (code_of op) ≡ op
operation_of-code_of (ops.digit d) h = of_digit d h
operation_of-code_of (ops.set_flag n) h = of_set_flag n h
operation_of-code_of (ops.clear_flag n) h = of_clear_flag n h
operation_of-code_of (ops.test_flag n) h = of_test_flag n h
operation_of-code_of (ops.label n) h = of_label n h
operation_of-code_of (ops.goto (ops.label_named n)) h = of_goto n h
operation_of-code_of (ops.gosub (ops.label_named n)) h = of_gosub n h
operation_of-code_of (ops.store (ops.register r)) h = of_store r h
operation_of-code_of (ops.recall (ops.register r)) h = of_recall r h
operation_of-code_of (ops.window k) h = of_window k h
operation_of-code_of (ops.rotate way) h = of_rotate way
operation_of-code_of (ops.rotate_many way) h = of_rotate_many way
operation_of-code_of (ops.set_base base) h = of_set_base base
operation_of-code_of (ops.set_mode mode) h = of_set_mode mode
operation_of-code_of (ops.test condition) h = of_test condition
operation_of-code_of (ops.goto ops.label_in_index) h = refl
operation_of-code_of (ops.gosub ops.label_in_index) h = refl
operation_of-code_of (ops.store ops.index_register) h = refl
operation_of-code_of (ops.store ops.through_index) h = refl
operation_of-code_of (ops.recall ops.index_register) h = refl
operation_of-code_of (ops.recall ops.through_index) h = refl
operation_of-code_of _ h = refl

pub code_of-below : (op : Operation) → IsInRange op → code_of op < 225
code_of-below (ops.digit d) h = omega arith
code_of-below (ops.set_flag n) h = omega arith
code_of-below (ops.clear_flag n) h = omega arith
code_of-below (ops.test_flag n) h = omega arith
code_of-below (ops.label n) h = omega arith
code_of-below (ops.goto (ops.label_named n)) h = omega arith
code_of-below (ops.gosub (ops.label_named n)) h = omega arith
code_of-below (ops.store (ops.register r)) h = omega arith
code_of-below (ops.recall (ops.register r)) h = omega arith
code_of-below (ops.window k) h = omega arith
code_of-below (ops.rotate way) h = elim way as (λ way. code_of (ops.rotate way) < 225) [ ops.left ↦ lit< tt | ops.right ↦ lit< tt | ops.left_carry ↦ lit< tt | ops.right_carry ↦ lit< tt ]
code_of-below (ops.rotate_many way) h = elim way as (λ way. code_of (ops.rotate_many way) < 225) [ ops.left ↦ lit< tt | ops.right ↦ lit< tt | ops.left_carry ↦ lit< tt | ops.right_carry ↦ lit< tt ]
code_of-below (ops.set_base base) h = elim base as (λ base. code_of (ops.set_base base) < 225) [ Hex ↦ lit< tt | Dec ↦ lit< tt | Oct ↦ lit< tt | Bin ↦ lit< tt ]
code_of-below (ops.set_mode mode) h = elim mode as (λ mode. code_of (ops.set_mode mode) < 225) [ Unsigned ↦ lit< tt | Ones ↦ lit< tt | Twos ↦ lit< tt ]
code_of-below (ops.test condition) h = test_below condition
code_of-below _ h = lit< tt
