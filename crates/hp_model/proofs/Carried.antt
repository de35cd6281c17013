-- The operations of the codes that carry a number.
use Rattle.std.proofs.Common.{◌≡◌, ℕ, ◌+◌, ◌<◌, arith}
use Rattle.std.proofs.lemmas.Bool.Decides.{nat_tests}
use Rattle.hp_model.specs.Operations as ops
use Rattle.hp_model.specs.Codes.{operation_of}

pub of_digit : (d : ℕ) → d < 16 → operation_of d ≡ ops.digit d
of_digit d h = grind (arith, nat_tests)

pub of_set_flag : (n : ℕ) → n < 6 → operation_of (74 + n) ≡ ops.set_flag n
of_set_flag n h = grind (arith, nat_tests)

pub of_clear_flag : (n : ℕ) → n < 6 → operation_of (80 + n) ≡ ops.clear_flag n
of_clear_flag n h = grind (arith, nat_tests)

pub of_test_flag : (n : ℕ) → n < 6 → operation_of (86 + n) ≡ ops.test_flag n
of_test_flag n h = grind (arith, nat_tests)

pub of_label : (n : ℕ) → n < 16 → operation_of (92 + n) ≡ ops.label n
of_label n h = grind (arith, nat_tests)

pub of_goto : (n : ℕ) → n < 16 → operation_of (108 + n) ≡ ops.goto (ops.label_named n)
of_goto n h = grind (arith, nat_tests)

pub of_gosub : (n : ℕ) → n < 16 → operation_of (125 + n) ≡ ops.gosub (ops.label_named n)
of_gosub n h = grind (arith, nat_tests)

pub of_store : (r : ℕ) → r < 32 → operation_of (145 + r) ≡ ops.store (ops.register r)
of_store r h = grind (arith, nat_tests)

pub of_recall : (r : ℕ) → r < 32 → operation_of (179 + r) ≡ ops.recall (ops.register r)
of_recall r h = grind (arith, nat_tests)

pub of_window : (k : ℕ) → k < 8 → operation_of (215 + k) ≡ ops.window k
of_window k h = grind (arith, nat_tests)

pub ruleset carried = (of_digit, of_set_flag, of_clear_flag, of_test_flag, of_label, of_goto, of_gosub, of_store, of_recall, of_window)
