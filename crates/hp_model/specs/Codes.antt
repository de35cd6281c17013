-- The code table: each operation is one of 225 codes.
use Rattle.std.specs.Prelude.{ℕ, ◌+◌, ◌-◌, nat_lt, if◌then◌else◌, List, [], ◌∷◌, slice_get, unwrap_or}
use Rattle.hp_model.specs.declared.Base.TheVariants.{Hex, Dec, Oct, Bin}
use Rattle.hp_model.specs.declared.Mode.TheVariants.{Unsigned, Ones, Twos}
use Rattle.hp_model.specs.Operations.{Operation}
use Rattle.hp_model.specs.Operations as ops

-- the operations that carry no number, in two stretches of the codes
abbrev pub functions : List Operation
functions =
    ops.add ∷ ops.subtract ∷ ops.multiply ∷ ops.divide ∷ ops.enter ∷ ops.change_sign ∷ ops.roll_down ∷ ops.roll_up ∷ ops.exchange ∷ ops.clear_x ∷ ops.last_x
    ∷ ops.set_base Hex ∷ ops.set_base Dec ∷ ops.set_base Oct ∷ ops.set_base Bin ∷ ops.shift_left ∷ ops.shift_right ∷ ops.shift_arithmetic
    ∷ ops.rotate ops.left ∷ ops.rotate ops.right ∷ ops.rotate ops.left_carry ∷ ops.rotate ops.right_carry
    ∷ ops.rotate_many ops.left ∷ ops.rotate_many ops.right ∷ ops.rotate_many ops.left_carry ∷ ops.rotate_many ops.right_carry
    ∷ ops.left_justify ∷ ops.mask_left ∷ ops.mask_right ∷ ops.count_ones ∷ ops.set_bit ∷ ops.clear_bit ∷ ops.test_bit
    ∷ ops.bits_not ∷ ops.bits_and ∷ ops.bits_or ∷ ops.bits_xor ∷ ops.absolute ∷ ops.remainder ∷ ops.square_root
    ∷ ops.double_multiply ∷ ops.double_divide ∷ ops.double_remainder ∷ ops.set_mode Ones ∷ ops.set_mode Twos ∷ ops.set_mode Unsigned
    ∷ ops.set_size ∷ ops.clear_registers ∷ ops.test ops.at_most_y ∷ ops.test ops.negative ∷ ops.test ops.above_y ∷ ops.test ops.positive
    ∷ ops.test ops.not_y ∷ ops.test ops.nonzero ∷ ops.test ops.equal_y ∷ ops.test ops.is_zero ∷ ops.decrement_skip ∷ ops.increment_skip ∷ []

-- the operation of a code, which is below 225
abbrev pub operation_of : ℕ → Operation
operation_of code =
    if nat_lt code 16 then ops.digit code else
    if nat_lt code 74 then unwrap_or (slice_get functions (code - 16)) ops.pause else
    if nat_lt code 80 then ops.set_flag (code - 74) else
    if nat_lt code 86 then ops.clear_flag (code - 80) else
    if nat_lt code 92 then ops.test_flag (code - 86) else
    if nat_lt code 108 then ops.label (code - 92) else
    if nat_lt code 124 then ops.goto (ops.label_named (code - 108)) else
    if nat_lt code 125 then ops.goto ops.label_in_index else
    if nat_lt code 141 then ops.gosub (ops.label_named (code - 125)) else
    if nat_lt code 145 then unwrap_or (slice_get (ops.gosub ops.label_in_index ∷ ops.to_caller ∷ ops.pause ∷ ops.run_stop ∷ []) (code - 141)) ops.pause else
    if nat_lt code 177 then ops.store (ops.register (code - 145)) else
    if nat_lt code 179 then unwrap_or (slice_get (ops.store ops.index_register ∷ ops.store ops.through_index ∷ []) (code - 177)) ops.pause else
    if nat_lt code 211 then ops.recall (ops.register (code - 179)) else
    if nat_lt code 215 then unwrap_or (slice_get (ops.recall ops.index_register ∷ ops.recall ops.through_index ∷ ops.exchange_index ∷ ops.exchange_through ∷ []) (code - 211)) ops.pause else
    if nat_lt code 223 then ops.window (code - 215) else
    if nat_lt code 224 then ops.window_left else ops.window_right

-- the code of an operation
abbrev pub code_of : Operation → ℕ
code_of (ops.digit d) = d
code_of ops.add = 16
code_of ops.subtract = 17
code_of ops.multiply = 18
code_of ops.divide = 19
code_of ops.enter = 20
code_of ops.change_sign = 21
code_of ops.roll_down = 22
code_of ops.roll_up = 23
code_of ops.exchange = 24
code_of ops.clear_x = 25
code_of ops.last_x = 26
code_of (ops.set_base Hex) = 27
code_of (ops.set_base Dec) = 28
code_of (ops.set_base Oct) = 29
code_of (ops.set_base Bin) = 30
code_of ops.shift_left = 31
code_of ops.shift_right = 32
code_of ops.shift_arithmetic = 33
code_of (ops.rotate ops.left) = 34
code_of (ops.rotate ops.right) = 35
code_of (ops.rotate ops.left_carry) = 36
code_of (ops.rotate ops.right_carry) = 37
code_of (ops.rotate_many ops.left) = 38
code_of (ops.rotate_many ops.right) = 39
code_of (ops.rotate_many ops.left_carry) = 40
code_of (ops.rotate_many ops.right_carry) = 41
code_of ops.left_justify = 42
code_of ops.mask_left = 43
code_of ops.mask_right = 44
code_of ops.count_ones = 45
code_of ops.set_bit = 46
code_of ops.clear_bit = 47
code_of ops.test_bit = 48
code_of ops.bits_not = 49
code_of ops.bits_and = 50
code_of ops.bits_or = 51
code_of ops.bits_xor = 52
code_of ops.absolute = 53
code_of ops.remainder = 54
code_of ops.square_root = 55
code_of ops.double_multiply = 56
code_of ops.double_divide = 57
code_of ops.double_remainder = 58
code_of (ops.set_mode Ones) = 59
code_of (ops.set_mode Twos) = 60
code_of (ops.set_mode Unsigned) = 61
code_of ops.set_size = 62
code_of ops.clear_registers = 63
code_of (ops.test ops.at_most_y) = 64
code_of (ops.test ops.negative) = 65
code_of (ops.test ops.above_y) = 66
code_of (ops.test ops.positive) = 67
code_of (ops.test ops.not_y) = 68
code_of (ops.test ops.nonzero) = 69
code_of (ops.test ops.equal_y) = 70
code_of (ops.test ops.is_zero) = 71
code_of ops.decrement_skip = 72
code_of ops.increment_skip = 73
code_of (ops.set_flag n) = 74 + n
code_of (ops.clear_flag n) = 80 + n
code_of (ops.test_flag n) = 86 + n
code_of (ops.label n) = 92 + n
code_of (ops.goto (ops.label_named n)) = 108 + n
code_of (ops.goto ops.label_in_index) = 124
code_of (ops.gosub (ops.label_named n)) = 125 + n
code_of (ops.gosub ops.label_in_index) = 141
code_of ops.to_caller = 142
code_of ops.pause = 143
code_of ops.run_stop = 144
code_of (ops.store (ops.register r)) = 145 + r
code_of (ops.store ops.index_register) = 177
code_of (ops.store ops.through_index) = 178
code_of (ops.recall (ops.register r)) = 179 + r
code_of (ops.recall ops.index_register) = 211
code_of (ops.recall ops.through_index) = 212
code_of ops.exchange_index = 213
code_of ops.exchange_through = 214
code_of (ops.window k) = 215 + k
code_of ops.window_left = 223
code_of ops.window_right = 224
