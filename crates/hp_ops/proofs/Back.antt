-- An operation of the code by the machine's operation that it is.
use Rattle.std.proofs.Common.{◌≡◌, ℕ, ◌<◌, min, arith, refl, subst, ap, sym, ◌∙◌}
use Rattle.std.proofs.Math.Bridge.{le_prop}
use Rattle.hp_model.specs.Operations.{Operation, Rotation as Way, Test as Condition, Target as Named, Place as Where}
use Rattle.hp_model.specs.Operations as ops
use Rattle.hp_ops.specs.declared.groups.Stack.TheVariants as stack
use Rattle.hp_ops.specs.declared.groups.Arithmetic.TheVariants as arithmetic
use Rattle.hp_ops.specs.declared.groups.Double.TheVariants as double
use Rattle.hp_ops.specs.declared.groups.Shift.TheVariants as shift
use Rattle.hp_ops.specs.declared.groups.Rotation.{Rotation}
use Rattle.hp_ops.specs.declared.groups.Rotation.TheVariants as rotation
use Rattle.hp_ops.specs.declared.groups.Bits.TheVariants as bits
use Rattle.hp_ops.specs.declared.groups.Logic.TheVariants as logic
use Rattle.hp_ops.specs.declared.groups.Setting.TheVariants as setting
use Rattle.hp_ops.specs.declared.groups.Test.{Test}
use Rattle.hp_ops.specs.declared.groups.Test.TheVariants as test
use Rattle.hp_ops.specs.declared.groups.Loop.TheVariants as loop
use Rattle.hp_ops.specs.declared.groups.Flags.TheVariants as flags
use Rattle.hp_ops.specs.declared.groups.Target.{Target}
use Rattle.hp_ops.specs.declared.groups.Target.TheVariants as target
use Rattle.hp_ops.specs.declared.groups.Jump.TheVariants as jump
use Rattle.hp_ops.specs.declared.groups.Place.{Place}
use Rattle.hp_ops.specs.declared.groups.Place.TheVariants as place
use Rattle.hp_ops.specs.declared.groups.Registers.TheVariants as registers
use Rattle.hp_ops.specs.declared.groups.Windows.TheVariants as windows
use Rattle.hp_ops.specs.declared.op.Op.{Op}
use Rattle.hp_ops.specs.declared.op.Op.TheVariants as op
use Rattle.hp_ops.specs.declared.numbers.HexDigit.{HexDigit}
use Rattle.hp_ops.specs.declared.numbers.Flag.{Flag}
use Rattle.hp_ops.specs.declared.numbers.Register.{Register}
use Rattle.hp_ops.specs.declared.numbers.Window.{Window}
use Rattle.hp_ops.specs.Meaning.{operation, way, condition, named, where_is}

-- ---- numbers of one value are one

same_digit : (a b : HexDigit) → a.value ≡ b.value → a ≡ b
same_digit a b e =
    let Same : ℕ → Type 0 = λ v. (h : v < 16) → a ≡ record { value = v; in_range = h } in
    let here : Same a.value = λ h. ap {B = HexDigit} (λ p. record { value = a.value; in_range = p }) (le_prop a.in_range h) in
    subst Same e here b.in_range

same_flag : (a b : Flag) → a.number ≡ b.number → a ≡ b
same_flag a b e =
    let Same : ℕ → Type 0 = λ v. (h : v < 6) → a ≡ record { number = v; in_range = h } in
    let here : Same a.number = λ h. ap {B = Flag} (λ p. record { number = a.number; in_range = p }) (le_prop a.in_range h) in
    subst Same e here b.in_range

same_register : (a b : Register) → a.number ≡ b.number → a ≡ b
same_register a b e =
    let Same : ℕ → Type 0 = λ v. (h : v < 32) → a ≡ record { number = v; in_range = h } in
    let here : Same a.number = λ h. ap {B = Register} (λ p. record { number = a.number; in_range = p }) (le_prop a.in_range h) in
    subst Same e here b.in_range

same_window : (a b : Window) → a.number ≡ b.number → a ≡ b
same_window a b e =
    let Same : ℕ → Type 0 = λ v. (h : v < 8) → a ≡ record { number = v; in_range = h } in
    let here : Same a.number = λ h. ap {B = Window} (λ p. record { number = a.number; in_range = p }) (le_prop a.in_range h) in
    subst Same e here b.in_range

-- a number as a carried one, which is the greatest where it is too great
abbrev digit_of : ℕ → HexDigit
digit_of n = record { value = min n 15; in_range = omega arith }

own_digit : (a : HexDigit) → digit_of a.value ≡ a
own_digit a = same_digit (digit_of a.value) a (omega (arith, a.in_range))

abbrev flag_of : ℕ → Flag
flag_of n = record { number = min n 5; in_range = omega arith }

own_flag : (a : Flag) → flag_of a.number ≡ a
own_flag a = same_flag (flag_of a.number) a (omega (arith, a.in_range))

abbrev register_of : ℕ → Register
register_of n = record { number = min n 31; in_range = omega arith }

own_register : (a : Register) → register_of a.number ≡ a
own_register a = same_register (register_of a.number) a (omega (arith, a.in_range))

abbrev window_of : ℕ → Window
window_of n = record { number = min n 7; in_range = omega arith }

own_window : (a : Window) → window_of a.number ≡ a
own_window a = same_window (window_of a.number) a (omega (arith, a.in_range))

-- ---- the operation of a meaning

abbrev back_way : Way → Rotation
back_way ops.left = rotation.Left
back_way ops.right = rotation.Right
back_way ops.left_carry = rotation.LeftCarry
back_way ops.right_carry = rotation.RightCarry

own_way : (a : Rotation) → back_way (way a) ≡ a
own_way rotation.Left = refl
own_way rotation.Right = refl
own_way rotation.LeftCarry = refl
own_way rotation.RightCarry = refl

abbrev back_condition : Condition → Test
back_condition ops.at_most_y = test.AtMostY
back_condition ops.negative = test.Negative
back_condition ops.above_y = test.AboveY
back_condition ops.positive = test.Positive
back_condition ops.not_y = test.NotY
back_condition ops.nonzero = test.NotZero
back_condition ops.equal_y = test.EqualY
back_condition ops.is_zero = test.Zero

own_condition : (a : Test) → back_condition (condition a) ≡ a
own_condition test.AtMostY = refl
own_condition test.Negative = refl
own_condition test.AboveY = refl
own_condition test.Positive = refl
own_condition test.NotY = refl
own_condition test.NotZero = refl
own_condition test.EqualY = refl
own_condition test.Zero = refl

abbrev back_named : Named → Target
back_named (ops.label_named n) = target.Label (digit_of n)
back_named ops.label_in_index = target.Index

own_named : (a : Target) → back_named (named a) ≡ a
own_named (target.Label label) = ap (λ k. target.Label k) (own_digit label)
own_named target.Index = refl

abbrev back_where : Where → Place
back_where (ops.register n) = place.Direct (register_of n)
back_where ops.index_register = place.Index
back_where ops.through_index = place.Through

own_where : (a : Place) → back_where (where_is a) ≡ a
own_where (place.Direct register) = ap (λ k. place.Direct k) (own_register register)
own_where place.Index = refl
own_where place.Through = refl

abbrev back : Operation → Op
back (ops.digit n) = op.Digit (digit_of n)
back (ops.rotate w) = op.Rotate (back_way w)
back (ops.rotate_many w) = op.RotateMany (back_way w)
back (ops.test t) = op.Test (back_condition t)
back ops.enter = op.Stack stack.Enter
back ops.roll_down = op.Stack stack.RollDown
back ops.roll_up = op.Stack stack.RollUp
back ops.exchange = op.Stack stack.Exchange
back ops.clear_x = op.Stack stack.ClearX
back ops.last_x = op.Stack stack.LastX
back ops.add = op.Arithmetic arithmetic.Add
back ops.subtract = op.Arithmetic arithmetic.Subtract
back ops.multiply = op.Arithmetic arithmetic.Multiply
back ops.divide = op.Arithmetic arithmetic.Divide
back ops.remainder = op.Arithmetic arithmetic.Remainder
back ops.change_sign = op.Arithmetic arithmetic.ChangeSign
back ops.absolute = op.Arithmetic arithmetic.Absolute
back ops.square_root = op.Arithmetic arithmetic.SquareRoot
back ops.double_multiply = op.Double double.Multiply
back ops.double_divide = op.Double double.Divide
back ops.double_remainder = op.Double double.Remainder
back ops.shift_left = op.Shift shift.Left
back ops.shift_right = op.Shift shift.Right
back ops.shift_arithmetic = op.Shift shift.Arithmetic
back ops.left_justify = op.Shift shift.Justify
back ops.mask_left = op.Bits bits.MaskLeft
back ops.mask_right = op.Bits bits.MaskRight
back ops.count_ones = op.Bits bits.CountOnes
back ops.set_bit = op.Bits bits.Set
back ops.clear_bit = op.Bits bits.Clear
back ops.test_bit = op.Bits bits.Test
back ops.bits_not = op.Logic logic.Not
back ops.bits_and = op.Logic logic.And
back ops.bits_or = op.Logic logic.Or
back ops.bits_xor = op.Logic logic.Xor
back (ops.set_base base) = op.Setting (setting.Base base)
back (ops.set_mode mode) = op.Setting (setting.Mode mode)
back ops.set_size = op.Setting setting.Size
back ops.decrement_skip = op.Loop loop.Decrement
back ops.increment_skip = op.Loop loop.Increment
back (ops.set_flag n) = op.Flags (flags.Set (flag_of n))
back (ops.clear_flag n) = op.Flags (flags.Clear (flag_of n))
back (ops.test_flag n) = op.Flags (flags.Test (flag_of n))
back (ops.label n) = op.Jump (jump.Label (digit_of n))
back (ops.goto to) = op.Jump (jump.Goto (back_named to))
back (ops.gosub to) = op.Jump (jump.Gosub (back_named to))
back ops.to_caller = op.Jump jump.Return
back ops.pause = op.Jump jump.Pause
back ops.run_stop = op.Jump jump.RunStop
back (ops.store to) = op.Registers (registers.Store (back_where to))
back (ops.recall from) = op.Registers (registers.Recall (back_where from))
back ops.exchange_index = op.Registers registers.ExchangeIndex
back ops.exchange_through = op.Registers registers.ExchangeThrough
back ops.clear_registers = op.Registers registers.Clear
back (ops.window n) = op.Windows (windows.Show (window_of n))
back ops.window_left = op.Windows windows.Left
back ops.window_right = op.Windows windows.Right

-- each operation is the only one of its meaning
own : (a : Op) → back (operation a) ≡ a
own (op.Digit digit) = ap (λ k. op.Digit k) (own_digit digit)
own (op.Rotate w) = ap (λ k. op.Rotate k) (own_way w)
own (op.RotateMany w) = ap (λ k. op.RotateMany k) (own_way w)
own (op.Test t) = ap (λ k. op.Test k) (own_condition t)
own (op.Stack stack.Enter) = refl
own (op.Stack stack.RollDown) = refl
own (op.Stack stack.RollUp) = refl
own (op.Stack stack.Exchange) = refl
own (op.Stack stack.ClearX) = refl
own (op.Stack stack.LastX) = refl
own (op.Arithmetic arithmetic.Add) = refl
own (op.Arithmetic arithmetic.Subtract) = refl
own (op.Arithmetic arithmetic.Multiply) = refl
own (op.Arithmetic arithmetic.Divide) = refl
own (op.Arithmetic arithmetic.Remainder) = refl
own (op.Arithmetic arithmetic.ChangeSign) = refl
own (op.Arithmetic arithmetic.Absolute) = refl
own (op.Arithmetic arithmetic.SquareRoot) = refl
own (op.Double double.Multiply) = refl
own (op.Double double.Divide) = refl
own (op.Double double.Remainder) = refl
own (op.Shift shift.Left) = refl
own (op.Shift shift.Right) = refl
own (op.Shift shift.Arithmetic) = refl
own (op.Shift shift.Justify) = refl
own (op.Bits bits.MaskLeft) = refl
own (op.Bits bits.MaskRight) = refl
own (op.Bits bits.CountOnes) = refl
own (op.Bits bits.Set) = refl
own (op.Bits bits.Clear) = refl
own (op.Bits bits.Test) = refl
own (op.Logic logic.Not) = refl
own (op.Logic logic.And) = refl
own (op.Logic logic.Or) = refl
own (op.Logic logic.Xor) = refl
own (op.Setting (setting.Base base)) = refl
own (op.Setting (setting.Mode mode)) = refl
own (op.Setting setting.Size) = refl
own (op.Loop loop.Decrement) = refl
own (op.Loop loop.Increment) = refl
own (op.Flags (flags.Set flag)) = ap (λ k. op.Flags (flags.Set k)) (own_flag flag)
own (op.Flags (flags.Clear flag)) = ap (λ k. op.Flags (flags.Clear k)) (own_flag flag)
own (op.Flags (flags.Test flag)) = ap (λ k. op.Flags (flags.Test k)) (own_flag flag)
own (op.Jump (jump.Label label)) = ap (λ k. op.Jump (jump.Label k)) (own_digit label)
own (op.Jump (jump.Goto to)) = ap (λ k. op.Jump (jump.Goto k)) (own_named to)
own (op.Jump (jump.Gosub to)) = ap (λ k. op.Jump (jump.Gosub k)) (own_named to)
own (op.Jump jump.Return) = refl
own (op.Jump jump.Pause) = refl
own (op.Jump jump.RunStop) = refl
own (op.Registers (registers.Store to)) = ap (λ k. op.Registers (registers.Store k)) (own_where to)
own (op.Registers (registers.Recall from)) = ap (λ k. op.Registers (registers.Recall k)) (own_where from)
own (op.Registers registers.ExchangeIndex) = refl
own (op.Registers registers.ExchangeThrough) = refl
own (op.Registers registers.Clear) = refl
own (op.Windows (windows.Show window)) = ap (λ k. op.Windows (windows.Show k)) (own_window window)
own (op.Windows windows.Left) = refl
own (op.Windows windows.Right) = refl

pub same_operation : (a b : Op) → operation a ≡ operation b → a ≡ b
same_operation a b e = sym (own a) ∙ ap back e ∙ own b
