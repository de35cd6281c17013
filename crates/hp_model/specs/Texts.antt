-- The listing text of each operation.
use Rattle.std.specs.Prelude.{ℕ, ◌-◌, nat_lt, if◌then◌else◌, List, [], ◌∷◌, ◌++◌, codes, true}
use Rattle.std.specs.Fmt.{digit_glyph}
use Rattle.hp_model.specs.declared.Base.TheVariants.{Hex, Dec, Oct, Bin}
use Rattle.hp_model.specs.declared.Mode.TheVariants.{Unsigned, Ones, Twos}
use Rattle.hp_model.specs.Operations.{Test, Target, Place, Operation}
use Rattle.hp_model.specs.Operations as ops

-- a hexadecimal digit
abbrev pub digit_text : ℕ → List ℕ
digit_text d = digit_glyph true d ∷ []

abbrev pub target_text : Target → List ℕ
target_text (ops.label_named n) = digit_text n
target_text ops.label_in_index = codes "I"

abbrev pub place_text : Place → List ℕ
place_text (ops.register r) = if nat_lt r 16 then digit_text r else codes "." ++ digit_text (r - 16)
place_text ops.index_register = codes "I"
place_text ops.through_index = codes "(i)"

abbrev pub test_text : Test → List ℕ
test_text ops.at_most_y = codes "x<=y"
test_text ops.negative = codes "x<0"
test_text ops.above_y = codes "x>y"
test_text ops.positive = codes "x>0"
test_text ops.not_y = codes "x!=y"
test_text ops.nonzero = codes "x!=0"
test_text ops.equal_y = codes "x=y"
test_text ops.is_zero = codes "x=0"

-- the listing text of an operation
abbrev pub text_of : Operation → List ℕ
text_of (ops.digit d) = digit_text d
text_of ops.add = codes "+"
text_of ops.subtract = codes "-"
text_of ops.multiply = codes "*"
text_of ops.divide = codes "/"
text_of ops.enter = codes "ENTER"
text_of ops.change_sign = codes "CHS"
text_of ops.roll_down = codes "RDN"
text_of ops.roll_up = codes "RUP"
text_of ops.exchange = codes "x<>y"
text_of ops.clear_x = codes "CLX"
text_of ops.last_x = codes "LSTX"
text_of (ops.set_base Hex) = codes "HEX"
text_of (ops.set_base Dec) = codes "DEC"
text_of (ops.set_base Oct) = codes "OCT"
text_of (ops.set_base Bin) = codes "BIN"
text_of ops.shift_left = codes "SL"
text_of ops.shift_right = codes "SR"
text_of ops.shift_arithmetic = codes "ASR"
text_of (ops.rotate ops.left) = codes "RL"
text_of (ops.rotate ops.right) = codes "RR"
text_of (ops.rotate ops.left_carry) = codes "RLC"
text_of (ops.rotate ops.right_carry) = codes "RRC"
text_of (ops.rotate_many ops.left) = codes "RLN"
text_of (ops.rotate_many ops.right) = codes "RRN"
text_of (ops.rotate_many ops.left_carry) = codes "RLCN"
text_of (ops.rotate_many ops.right_carry) = codes "RRCN"
text_of ops.left_justify = codes "LJ"
text_of ops.mask_left = codes "MASKL"
text_of ops.mask_right = codes "MASKR"
text_of ops.count_ones = codes "#B"
text_of ops.set_bit = codes "SB"
text_of ops.clear_bit = codes "CB"
text_of ops.test_bit = codes "B?"
text_of ops.bits_not = codes "NOT"
text_of ops.bits_and = codes "AND"
text_of ops.bits_or = codes "OR"
text_of ops.bits_xor = codes "XOR"
text_of ops.absolute = codes "ABS"
text_of ops.remainder = codes "RMD"
text_of ops.square_root = codes "SQRT"
text_of ops.double_multiply = codes "DBL*"
text_of ops.double_divide = codes "DBL/"
text_of ops.double_remainder = codes "DBLR"
text_of (ops.set_mode Ones) = codes "1'S"
text_of (ops.set_mode Twos) = codes "2'S"
text_of (ops.set_mode Unsigned) = codes "UNSGN"
text_of ops.set_size = codes "WSIZE"
text_of ops.clear_registers = codes "CLREG"
text_of (ops.test t) = test_text t
text_of ops.decrement_skip = codes "DSZ"
text_of ops.increment_skip = codes "ISZ"
text_of (ops.set_flag n) = codes "SF " ++ digit_text n
text_of (ops.clear_flag n) = codes "CF " ++ digit_text n
text_of (ops.test_flag n) = codes "F? " ++ digit_text n
text_of (ops.label n) = codes "LBL " ++ digit_text n
text_of (ops.goto target) = codes "GTO " ++ target_text target
text_of (ops.gosub target) = codes "GSB " ++ target_text target
text_of ops.to_caller = codes "RTN"
text_of ops.pause = codes "PSE"
text_of ops.run_stop = codes "R/S"
text_of (ops.store place) = codes "STO " ++ place_text place
text_of (ops.recall place) = codes "RCL " ++ place_text place
text_of ops.exchange_index = codes "x<>I"
text_of ops.exchange_through = codes "x<>(i)"
text_of (ops.window k) = codes "WINDOW " ++ digit_text k
text_of ops.window_left = codes "<"
text_of ops.window_right = codes ">"
