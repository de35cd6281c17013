-- What an operation does to the data.
use Rattle.std.specs.Prelude.{ℕ, ◌-◌, ◌*◌, ◌%◌, ◌^◌, ◌==◌, bit_and, bit_or, bit_xor, Bool, false, true, if◌then◌else◌, List, length, replicate, Option, Some, None}
use Rattle.hp_model.specs.declared.Answer.{Answer}
use Rattle.hp_model.specs.declared.End.TheVariants.{Error}
use Rattle.hp_model.specs.declared.Stop.{Stop}
use Rattle.hp_model.specs.declared.Stop.TheVariants.{Ended}
use Rattle.hp_model.specs.Operations.{Place, Operation}
use Rattle.hp_model.specs.Operations as ops
use Rattle.hp_model.specs.State.{Control, Data, carry, with_flag}
use Rattle.hp_model.specs.Memory.{register_value, with_register}
use Rattle.hp_model.specs.WordOperations.{plain, sum_of, difference_of, product_of, quotient_of, remainder_of, negation_of, absolute_of, root_of, double_product, double_quotient_of, double_remainder_of, shifted_left_of, shifted_right_of, shifted_arithmetic_of, rotated_of, rotated_times_of, left_shifts, ones_below, mask_left_pattern, mask_right_pattern, with_bit, without_bit}
use Rattle.hp_model.specs.Questions.{x_magnitude, decremented, incremented}
use Rattle.hp_model.specs.ControlStep.{control_step, is_ignored, longer_entry}

-- ---- the stack

abbrev pub with_x : ℕ → Data → Data
with_x x d = record d { x = x }

-- Y = z, Z = t
abbrev pub dropped : Data → Data
dropped d = record d { y = d.z; z = d.t }

-- Y = t, Z = t
abbrev pub dropped_twice : Data → Data
dropped_twice d = record d { y = d.t; z = d.t }

-- Y = x, Z = y, T = z
abbrev pub lifted : Data → Data
lifted d = record d { y = d.x; z = d.y; t = d.z }

-- X is new. The stack is lifted where that is enabled
abbrev pub pushed : Control → ℕ → Data → Data
pushed c x d = with_x x (if c.lift then lifted d else d)

-- LAST X = x
abbrev pub saved : Data → Data
saved d = record d { last = d.x }

-- ---- answers

abbrev pub set_if_told : ℕ → Option Bool → Data → Data
set_if_told n None d = d
set_if_told n (Some b) d = with_flag n b d

abbrev pub answered : Answer → Data → Data
answered a d = with_x a.pattern (set_if_told 5 a.range (set_if_told 4 a.carry d))

-- an operation on X, one on Y and X, and one on the double word Y, Z and X
abbrev pub of_x : Answer → Data → Data
of_x a d = answered a (saved d)

abbrev pub of_two : Answer → Data → Data
of_two a d = answered a (dropped (saved d))

abbrev pub of_three : Answer → Data → Data
of_three a d = answered a (dropped_twice (saved d))

abbrev pub with_size : ℕ → Data → Data
with_size w d = record d { x = d.x % 2 ^ w; y = d.y % 2 ^ w; z = d.z % 2 ^ w; t = d.t % 2 ^ w; last = d.last % 2 ^ w }

-- ---- registers

-- the register that a place names
abbrev pub read_place : Control → Place → Data → ℕ
read_place c (ops.register r) d = register_value c.size d.nibbles r
read_place c ops.index_register d = d.index % 2 ^ c.size
read_place c ops.through_index d = register_value c.size d.nibbles d.index

abbrev pub written_place : Control → Place → ℕ → Data → Data
written_place c (ops.register r) v d = record d { nibbles = with_register c.size d.nibbles r v }
written_place c ops.index_register v d = record d { index = v }
written_place c ops.through_index v d = record d { nibbles = with_register c.size d.nibbles d.index v }

-- the number that a digit makes, pushed where it begins a new entry
abbrev pub entered : ℕ → Control → Option ℕ → Data → Data
entered number c None d = pushed c number d
entered number c (Some entry) d = with_x number d

-- ---- the step

-- what an operation that doesn't err does
abbrev pub changed : Control → Operation → List Bool → Data → Data
changed c (ops.digit n) given d = if is_ignored c n then d else entered (longer_entry c n) c c.entry d
changed c ops.add given d = of_two (sum_of c.size c.mode d.y d.x) d
changed c ops.subtract given d = of_two (difference_of c.size c.mode d.y d.x) d
changed c ops.multiply given d = of_two (product_of c.size c.mode d.y d.x) d
changed c ops.divide given d = of_two (quotient_of c.size c.mode d.y d.x) d
changed c ops.remainder given d = of_two (remainder_of c.size c.mode d.y d.x) d
changed c ops.enter given d = lifted d
changed c ops.change_sign given d = answered (negation_of c.size c.mode d.x) d
changed c ops.absolute given d = of_x (absolute_of c.size c.mode d.x) d
changed c ops.square_root given d = of_x (root_of c.size c.mode d.x) d
changed c ops.roll_down given d = record d { x = d.y; y = d.z; z = d.t; t = d.x }
changed c ops.roll_up given d = record d { x = d.t; y = d.x; z = d.y; t = d.z }
changed c ops.exchange given d = record d { x = d.y; y = d.x }
changed c ops.clear_x given d = with_x 0 d
changed c ops.last_x given d = pushed c d.last d
changed c ops.shift_left given d = of_x (shifted_left_of c.size d.x) d
changed c ops.shift_right given d = of_x (shifted_right_of d.x) d
changed c ops.shift_arithmetic given d = of_x (shifted_arithmetic_of c.size c.mode d.x) d
changed c (ops.rotate way) given d = of_x (rotated_of way c.size d.x (carry d)) d
changed c (ops.rotate_many way) given d = of_two (rotated_times_of way c.size (x_magnitude c d) d.y (carry d)) d
changed c ops.left_justify given d =
    let n = left_shifts c.size d.x in
    with_x n (record (lifted (saved d)) { y = d.x * 2 ^ n })
changed c ops.mask_left given d = of_x (plain (mask_left_pattern c.size (x_magnitude c d))) d
changed c ops.mask_right given d = of_x (plain (mask_right_pattern (x_magnitude c d))) d
changed c ops.count_ones given d = of_x (plain (ones_below c.size d.x)) d
changed c ops.set_bit given d = of_two (plain (with_bit d.y (x_magnitude c d))) d
changed c ops.clear_bit given d = of_two (plain (without_bit d.y (x_magnitude c d))) d
changed c ops.test_bit given d = of_two (plain d.y) d
changed c ops.bits_not given d = of_x (plain (2 ^ c.size - 1 - d.x)) d
changed c ops.bits_and given d = of_two (plain (bit_and d.y d.x)) d
changed c ops.bits_or given d = of_two (plain (bit_or d.y d.x)) d
changed c ops.bits_xor given d = of_two (plain (bit_xor d.y d.x)) d
changed c ops.double_multiply given d =
    let p = double_product c.size c.mode d.y d.x in
    with_flag 5 false (record (saved d) { x = p.0; y = p.1 })
changed c ops.double_divide given d = of_three (double_quotient_of c.size c.mode d.y d.z d.x) d
changed c ops.double_remainder given d = of_three (double_remainder_of c.size c.mode d.y d.z d.x) d
changed c ops.set_size given d =
    with_size (if x_magnitude c d == 0 then 64 else x_magnitude c d) (with_x d.y (dropped d))
changed c ops.clear_registers given d = record d { nibbles = replicate (length d.nibbles) 0 }
changed c ops.decrement_skip given d = record d { index = decremented c d }
changed c ops.increment_skip given d = record d { index = incremented c d }
changed c (ops.set_flag n) given d = with_flag n true d
changed c (ops.clear_flag n) given d = with_flag n false d
changed c (ops.store place) given d = written_place c place d.x d
changed c (ops.recall place) given d = pushed c (read_place c place d) d
changed c ops.exchange_index given d = record d { x = d.index % 2 ^ c.size; index = d.x }
changed c ops.exchange_through given d = with_x (read_place c ops.through_index d) (written_place c ops.through_index d.x d)
changed c _ given d = d

abbrev pub is_error : Stop → Bool
is_error (Ended (Error n)) = true
is_error _ = false

-- the new data, where `given` are the answers that the data gives
abbrev pub data_step : Control → Operation → List Bool → Data → Data
data_step c op given d = if is_error (control_step c op given).1 then d else changed c op given d
