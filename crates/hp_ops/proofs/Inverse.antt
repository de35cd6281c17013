-- Codes and operations, both ways.
use Rattle.std.proofs.Common.{◌≡◌, ℕ, ◌<◌, ◌≤◌, Some, None, arith, ap, subst, sym, ◌∙◌}
use Rattle.hp_model.specs.Laws.{IsInRange}
use Rattle.hp_model.specs.Codes.{code_of, operation_of}
use Rattle.hp_model.proofs.Codes.{operation_of-code_of, code_of-below}
use Rattle.hp_ops.specs.declared.op.Op.{Op}
use Rattle.hp_ops.specs.declared.op.Op.TheVariants as op
use Rattle.hp_ops.specs.declared.groups.Stack.TheVariants as stack
use Rattle.hp_ops.specs.declared.groups.Arithmetic.TheVariants as arithmetic
use Rattle.hp_ops.specs.declared.groups.Double.TheVariants as double
use Rattle.hp_ops.specs.declared.groups.Shift.TheVariants as shift
use Rattle.hp_ops.specs.declared.groups.Bits.TheVariants as bits
use Rattle.hp_ops.specs.declared.groups.Logic.TheVariants as logic
use Rattle.hp_ops.specs.declared.groups.Setting.TheVariants as setting
use Rattle.hp_ops.specs.declared.groups.Loop.TheVariants as loop
use Rattle.hp_ops.specs.declared.groups.Flags.TheVariants as flags
use Rattle.hp_ops.specs.declared.groups.Target.TheVariants as target
use Rattle.hp_ops.specs.declared.groups.Jump.TheVariants as jump
use Rattle.hp_ops.specs.declared.groups.Place.TheVariants as place
use Rattle.hp_ops.specs.declared.groups.Registers.TheVariants as registers
use Rattle.hp_ops.specs.declared.groups.Windows.TheVariants as windows
use Rattle.hp_ops.specs.Meaning.{operation}
use Rattle.hp_ops.proofs.Back.{same_operation}

-- the number that an operation carries is in its range
in_range : (a : Op) → IsInRange (operation a)
in_range (op.Digit digit) = digit.in_range
in_range (op.Rotate w) = tt
in_range (op.RotateMany w) = tt
in_range (op.Test t) = tt
in_range (op.Stack stack.Enter) = tt
in_range (op.Stack stack.RollDown) = tt
in_range (op.Stack stack.RollUp) = tt
in_range (op.Stack stack.Exchange) = tt
in_range (op.Stack stack.ClearX) = tt
in_range (op.Stack stack.LastX) = tt
in_range (op.Arithmetic arithmetic.Add) = tt
in_range (op.Arithmetic arithmetic.Subtract) = tt
in_range (op.Arithmetic arithmetic.Multiply) = tt
in_range (op.Arithmetic arithmetic.Divide) = tt
in_range (op.Arithmetic arithmetic.Remainder) = tt
in_range (op.Arithmetic arithmetic.ChangeSign) = tt
in_range (op.Arithmetic arithmetic.Absolute) = tt
in_range (op.Arithmetic arithmetic.SquareRoot) = tt
in_range (op.Double double.Multiply) = tt
in_range (op.Double double.Divide) = tt
in_range (op.Double double.Remainder) = tt
in_range (op.Shift shift.Left) = tt
in_range (op.Shift shift.Right) = tt
in_range (op.Shift shift.Arithmetic) = tt
in_range (op.Shift shift.Justify) = tt
in_range (op.Bits bits.MaskLeft) = tt
in_range (op.Bits bits.MaskRight) = tt
in_range (op.Bits bits.CountOnes) = tt
in_range (op.Bits bits.Set) = tt
in_range (op.Bits bits.Clear) = tt
in_range (op.Bits bits.Test) = tt
in_range (op.Logic logic.Not) = tt
in_range (op.Logic logic.And) = tt
in_range (op.Logic logic.Or) = tt
in_range (op.Logic logic.Xor) = tt
in_range (op.Setting (setting.Base base)) = tt
in_range (op.Setting (setting.Mode mode)) = tt
in_range (op.Setting setting.Size) = tt
in_range (op.Loop loop.Decrement) = tt
in_range (op.Loop loop.Increment) = tt
in_range (op.Flags (flags.Set flag)) = flag.in_range
in_range (op.Flags (flags.Clear flag)) = flag.in_range
in_range (op.Flags (flags.Test flag)) = flag.in_range
in_range (op.Jump (jump.Label label)) = label.in_range
in_range (op.Jump (jump.Goto (target.Label label))) = label.in_range
in_range (op.Jump (jump.Goto target.Index)) = tt
in_range (op.Jump (jump.Gosub (target.Label label))) = label.in_range
in_range (op.Jump (jump.Gosub target.Index)) = tt
in_range (op.Jump jump.Return) = tt
in_range (op.Jump jump.Pause) = tt
in_range (op.Jump jump.RunStop) = tt
in_range (op.Registers (registers.Store (place.Direct register))) = register.in_range
in_range (op.Registers (registers.Store place.Index)) = tt
in_range (op.Registers (registers.Store place.Through)) = tt
in_range (op.Registers (registers.Recall (place.Direct register))) = register.in_range
in_range (op.Registers (registers.Recall place.Index)) = tt
in_range (op.Registers (registers.Recall place.Through)) = tt
in_range (op.Registers registers.ExchangeIndex) = tt
in_range (op.Registers registers.ExchangeThrough) = tt
in_range (op.Registers registers.Clear) = tt
in_range (op.Windows (windows.Show window)) = window.in_range
in_range (op.Windows windows.Left) = tt
in_range (op.Windows windows.Right) = tt

-- the code of an operation is its own
pub own_code : (a : Op) → operation_of (code_of (operation a)) ≡ operation a
own_code a = operation_of-code_of (operation a) (in_range a)

abbrev Below : ℕ → Type 0
Below n = n < 225

-- the operation that is found by a code is the one of that code
pub found : (b : Op) (code : ℕ) → code_of (operation b) ≡ code → (a : Op) → code_of (operation a) ≡ code → Some b ≡ Some a
found b code is a e = ap (λ k. Some k) (same_operation b a (sym (own_code b) ∙ ap operation_of (is ∙ sym e) ∙ own_code a))

-- a number that is no code is that of no operation
pub not_found : (code : ℕ) → 225 ≤ code → (a : Op) → code_of (operation a) ≡ code → None ≡ Some a
not_found code past a e =
    let below : code < 225 = subst Below e (code_of-below (operation a) (in_range a)) in
    absurd (omega (arith, past, below))
