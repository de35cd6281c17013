-- What the operations of the code mean: each is one of the machine's operations.
use Rattle.hp_model.specs.Operations.{Operation, Rotation as Way, Test as Condition, Target as Named, Place as Where}
use Rattle.hp_model.specs.Operations as ops
use Rattle.hp_ops.specs.declared.groups.Stack.{Stack}
use Rattle.hp_ops.specs.declared.groups.Stack.TheVariants as stack
use Rattle.hp_ops.specs.declared.groups.Arithmetic.{Arithmetic}
use Rattle.hp_ops.specs.declared.groups.Arithmetic.TheVariants as arithmetic
use Rattle.hp_ops.specs.declared.groups.Double.{Double}
use Rattle.hp_ops.specs.declared.groups.Double.TheVariants as double
use Rattle.hp_ops.specs.declared.groups.Shift.{Shift}
use Rattle.hp_ops.specs.declared.groups.Shift.TheVariants as shift
use Rattle.hp_ops.specs.declared.groups.Rotation.{Rotation}
use Rattle.hp_ops.specs.declared.groups.Rotation.TheVariants as rotation
use Rattle.hp_ops.specs.declared.groups.Bits.{Bits}
use Rattle.hp_ops.specs.declared.groups.Bits.TheVariants as bits
use Rattle.hp_ops.specs.declared.groups.Logic.{Logic}
use Rattle.hp_ops.specs.declared.groups.Logic.TheVariants as logic
use Rattle.hp_ops.specs.declared.groups.Setting.{Setting}
use Rattle.hp_ops.specs.declared.groups.Setting.TheVariants as setting
use Rattle.hp_ops.specs.declared.groups.Test.{Test}
use Rattle.hp_ops.specs.declared.groups.Test.TheVariants as test
use Rattle.hp_ops.specs.declared.groups.Loop.{Loop}
use Rattle.hp_ops.specs.declared.groups.Loop.TheVariants as loop
use Rattle.hp_ops.specs.declared.groups.Flags.{Flags}
use Rattle.hp_ops.specs.declared.groups.Flags.TheVariants as flags
use Rattle.hp_ops.specs.declared.groups.Target.{Target}
use Rattle.hp_ops.specs.declared.groups.Target.TheVariants as target
use Rattle.hp_ops.specs.declared.groups.Jump.{Jump}
use Rattle.hp_ops.specs.declared.groups.Jump.TheVariants as jump
use Rattle.hp_ops.specs.declared.groups.Place.{Place}
use Rattle.hp_ops.specs.declared.groups.Place.TheVariants as place
use Rattle.hp_ops.specs.declared.groups.Registers.{Registers}
use Rattle.hp_ops.specs.declared.groups.Registers.TheVariants as registers
use Rattle.hp_ops.specs.declared.groups.Windows.{Windows}
use Rattle.hp_ops.specs.declared.groups.Windows.TheVariants as windows
use Rattle.hp_ops.specs.declared.op.Op.{Op}
use Rattle.hp_ops.specs.declared.op.Op.TheVariants as op

abbrev pub of_stack : Stack → Operation
of_stack stack.Enter = ops.enter
of_stack stack.RollDown = ops.roll_down
of_stack stack.RollUp = ops.roll_up
of_stack stack.Exchange = ops.exchange
of_stack stack.ClearX = ops.clear_x
of_stack stack.LastX = ops.last_x

abbrev pub of_arithmetic : Arithmetic → Operation
of_arithmetic arithmetic.Add = ops.add
of_arithmetic arithmetic.Subtract = ops.subtract
of_arithmetic arithmetic.Multiply = ops.multiply
of_arithmetic arithmetic.Divide = ops.divide
of_arithmetic arithmetic.Remainder = ops.remainder
of_arithmetic arithmetic.ChangeSign = ops.change_sign
of_arithmetic arithmetic.Absolute = ops.absolute
of_arithmetic arithmetic.SquareRoot = ops.square_root

abbrev pub of_double : Double → Operation
of_double double.Multiply = ops.double_multiply
of_double double.Divide = ops.double_divide
of_double double.Remainder = ops.double_remainder

abbrev pub of_shift : Shift → Operation
of_shift shift.Left = ops.shift_left
of_shift shift.Right = ops.shift_right
of_shift shift.Arithmetic = ops.shift_arithmetic
of_shift shift.Justify = ops.left_justify

abbrev pub way : Rotation → Way
way rotation.Left = ops.left
way rotation.Right = ops.right
way rotation.LeftCarry = ops.left_carry
way rotation.RightCarry = ops.right_carry

abbrev pub of_bits : Bits → Operation
of_bits bits.MaskLeft = ops.mask_left
of_bits bits.MaskRight = ops.mask_right
of_bits bits.CountOnes = ops.count_ones
of_bits bits.Set = ops.set_bit
of_bits bits.Clear = ops.clear_bit
of_bits bits.Test = ops.test_bit

abbrev pub of_logic : Logic → Operation
of_logic logic.Not = ops.bits_not
of_logic logic.And = ops.bits_and
of_logic logic.Or = ops.bits_or
of_logic logic.Xor = ops.bits_xor

abbrev pub of_setting : Setting → Operation
of_setting (setting.Base base) = ops.set_base base
of_setting (setting.Mode mode) = ops.set_mode mode
of_setting setting.Size = ops.set_size

abbrev pub condition : Test → Condition
condition test.AtMostY = ops.at_most_y
condition test.Negative = ops.negative
condition test.AboveY = ops.above_y
condition test.Positive = ops.positive
condition test.NotY = ops.not_y
condition test.NotZero = ops.nonzero
condition test.EqualY = ops.equal_y
condition test.Zero = ops.is_zero

abbrev pub of_loop : Loop → Operation
of_loop loop.Decrement = ops.decrement_skip
of_loop loop.Increment = ops.increment_skip

abbrev pub of_flags : Flags → Operation
of_flags (flags.Set flag) = ops.set_flag flag.number
of_flags (flags.Clear flag) = ops.clear_flag flag.number
of_flags (flags.Test flag) = ops.test_flag flag.number

abbrev pub named : Target → Named
named (target.Label label) = ops.label_named label.value
named target.Index = ops.label_in_index

abbrev pub of_jump : Jump → Operation
of_jump (jump.Label label) = ops.label label.value
of_jump (jump.Goto to) = ops.goto (named to)
of_jump (jump.Gosub to) = ops.gosub (named to)
of_jump jump.Return = ops.to_caller
of_jump jump.Pause = ops.pause
of_jump jump.RunStop = ops.run_stop

abbrev pub where_is : Place → Where
where_is (place.Direct register) = ops.register register.number
where_is place.Index = ops.index_register
where_is place.Through = ops.through_index

abbrev pub of_registers : Registers → Operation
of_registers (registers.Store to) = ops.store (where_is to)
of_registers (registers.Recall from) = ops.recall (where_is from)
of_registers registers.ExchangeIndex = ops.exchange_index
of_registers registers.ExchangeThrough = ops.exchange_through
of_registers registers.Clear = ops.clear_registers

abbrev pub of_windows : Windows → Operation
of_windows (windows.Show window) = ops.window window.number
of_windows windows.Left = ops.window_left
of_windows windows.Right = ops.window_right

-- the machine's operation that an operation of the code is
abbrev pub operation : Op → Operation
operation (op.Digit digit) = ops.digit digit.value
operation (op.Stack o) = of_stack o
operation (op.Arithmetic o) = of_arithmetic o
operation (op.Double o) = of_double o
operation (op.Shift o) = of_shift o
operation (op.Rotate o) = ops.rotate (way o)
operation (op.RotateMany o) = ops.rotate_many (way o)
operation (op.Bits o) = of_bits o
operation (op.Logic o) = of_logic o
operation (op.Setting o) = of_setting o
operation (op.Test o) = ops.test (condition o)
operation (op.Loop o) = of_loop o
operation (op.Flags o) = of_flags o
operation (op.Jump o) = of_jump o
operation (op.Registers o) = of_registers o
operation (op.Windows o) = of_windows o
