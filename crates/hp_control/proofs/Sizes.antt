-- The word size after an operation.
use Rattle.std.proofs.Common.{◌≡◌, ℕ, List, Bool, Option, Some, None, inl, inr, refl}
use Rattle.hp_model.specs.State.{Control}
use Rattle.hp_model.specs.ControlStep.{control_step, error_of}
use Rattle.hp_ops.specs.declared.groups.Stack.{Stack}
use Rattle.hp_ops.specs.declared.groups.Stack.TheVariants as stack
use Rattle.hp_ops.specs.declared.groups.Arithmetic.{Arithmetic}
use Rattle.hp_ops.specs.declared.groups.Arithmetic.TheVariants as arithmetic
use Rattle.hp_ops.specs.declared.groups.Double.{Double}
use Rattle.hp_ops.specs.declared.groups.Double.TheVariants as double
use Rattle.hp_ops.specs.declared.groups.Shift.{Shift}
use Rattle.hp_ops.specs.declared.groups.Shift.TheVariants as shift
use Rattle.hp_ops.specs.declared.groups.Bits.{Bits}
use Rattle.hp_ops.specs.declared.groups.Bits.TheVariants as bits
use Rattle.hp_ops.specs.declared.groups.Logic.{Logic}
use Rattle.hp_ops.specs.declared.groups.Logic.TheVariants as logic
use Rattle.hp_ops.specs.declared.groups.Loop.{Loop}
use Rattle.hp_ops.specs.declared.groups.Loop.TheVariants as loop
use Rattle.hp_ops.specs.declared.groups.Flags.{Flags}
use Rattle.hp_ops.specs.declared.groups.Flags.TheVariants as flags
use Rattle.hp_ops.specs.declared.groups.Jump.{Jump}
use Rattle.hp_ops.specs.declared.groups.Jump.TheVariants as jump
use Rattle.hp_ops.specs.declared.groups.Registers.{Registers}
use Rattle.hp_ops.specs.declared.groups.Registers.TheVariants as registers
use Rattle.hp_ops.specs.declared.groups.Windows.{Windows}
use Rattle.hp_ops.specs.declared.groups.Windows.TheVariants as windows
use Rattle.hp_ops.specs.declared.groups.Setting.TheVariants as setting
use Rattle.hp_ops.specs.declared.op.Op.{Op}
use Rattle.hp_ops.specs.declared.op.Op.TheVariants as op
use Rattle.hp_ops.specs.Meaning.{operation, of_stack, of_arithmetic, of_double, of_shift, of_bits, of_logic, of_loop, of_flags, of_jump, of_registers, of_windows}
use Rattle.hp_control.specs.Controls.{size_after, HasSize}
use Rattle.hp_control.proofs.Erring.{step_errs, step-size}

stack-stays : (o : Stack) (given : List Bool) (w : ℕ) → size_after (of_stack o) given w ≡ w
stack-stays stack.Enter given w = refl
stack-stays _ given w = refl

arithmetic-stays : (o : Arithmetic) (given : List Bool) (w : ℕ) → size_after (of_arithmetic o) given w ≡ w
arithmetic-stays arithmetic.Add given w = refl
arithmetic-stays _ given w = refl

double-stays : (o : Double) (given : List Bool) (w : ℕ) → size_after (of_double o) given w ≡ w
double-stays double.Multiply given w = refl
double-stays _ given w = refl

shift-stays : (o : Shift) (given : List Bool) (w : ℕ) → size_after (of_shift o) given w ≡ w
shift-stays shift.Left given w = refl
shift-stays _ given w = refl

bits-stays : (o : Bits) (given : List Bool) (w : ℕ) → size_after (of_bits o) given w ≡ w
bits-stays bits.MaskLeft given w = refl
bits-stays _ given w = refl

logic-stays : (o : Logic) (given : List Bool) (w : ℕ) → size_after (of_logic o) given w ≡ w
logic-stays logic.Not given w = refl
logic-stays _ given w = refl

loop-stays : (o : Loop) (given : List Bool) (w : ℕ) → size_after (of_loop o) given w ≡ w
loop-stays loop.Decrement given w = refl
loop-stays _ given w = refl

flags-stays : (o : Flags) (given : List Bool) (w : ℕ) → size_after (of_flags o) given w ≡ w
flags-stays (flags.Set flag) given w = refl
flags-stays _ given w = refl

jump-stays : (o : Jump) (given : List Bool) (w : ℕ) → size_after (of_jump o) given w ≡ w
jump-stays jump.Return given w = refl
jump-stays _ given w = refl

registers-stays : (o : Registers) (given : List Bool) (w : ℕ) → size_after (of_registers o) given w ≡ w
registers-stays registers.Clear given w = refl
registers-stays _ given w = refl

windows-stays : (o : Windows) (given : List Bool) (w : ℕ) → size_after (of_windows o) given w ≡ w
windows-stays windows.Left given w = refl
windows-stays _ given w = refl

-- an operation that doesn't err
done-size : (o : Op) (given : List Bool) (w : ℕ) → HasSize o given w (size_after (operation o) given w)
done-size (op.Setting setting.Size) given w = inr refl
done-size (op.Stack o) given w = stack-stays o given w
done-size (op.Arithmetic o) given w = arithmetic-stays o given w
done-size (op.Double o) given w = double-stays o given w
done-size (op.Shift o) given w = shift-stays o given w
done-size (op.Bits o) given w = bits-stays o given w
done-size (op.Logic o) given w = logic-stays o given w
done-size (op.Loop o) given w = loop-stays o given w
done-size (op.Flags o) given w = flags-stays o given w
done-size (op.Jump o) given w = jump-stays o given w
done-size (op.Registers o) given w = registers-stays o given w
done-size (op.Windows o) given w = windows-stays o given w
done-size _ given w = refl

-- one that errs
same-size : (o : Op) (given : List Bool) (w : ℕ) → HasSize o given w w
same-size (op.Setting setting.Size) given w = inl refl
same-size _ given w = refl

pub size-after-step : (c : Control) (o : Op) (given : List Bool) → HasSize o given c.size (control_step c (operation o) given).0.size
size-after-step c o given = by_error (error_of c (operation o) given) refl
  where
    by_error : (error : Option ℕ) → error_of c (operation o) given ≡ error → HasSize o given c.size (control_step c (operation o) given).0.size
    by_error None e = rw (step-size c (operation o) given e) (done-size o given c.size)
    by_error (Some n) e = rw (step_errs c (operation o) given n e) (same-size o given c.size)
