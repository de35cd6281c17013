-- Only WSIZE changes the word size.
use Rattle.std.proofs.Common.{◌≡◌, ℕ, Bool, List, refl, sym, subst}
use Rattle.hp_model.specs.Operations.{Operation}
use Rattle.hp_ops.specs.Meaning.{of_arithmetic, of_bits, of_double, of_flags, of_logic, of_loop, of_registers, of_shift, of_stack}
use Rattle.hp_ops.specs.declared.groups.Arithmetic.{Arithmetic}
use Rattle.hp_ops.specs.declared.groups.Arithmetic.TheVariants as arithmetic
use Rattle.hp_ops.specs.declared.groups.Bits.{Bits}
use Rattle.hp_ops.specs.declared.groups.Bits.TheVariants as bits
use Rattle.hp_ops.specs.declared.groups.Double.{Double}
use Rattle.hp_ops.specs.declared.groups.Double.TheVariants as double
use Rattle.hp_ops.specs.declared.groups.Flags.{Flags}
use Rattle.hp_ops.specs.declared.groups.Flags.TheVariants as flags
use Rattle.hp_ops.specs.declared.groups.Logic.{Logic}
use Rattle.hp_ops.specs.declared.groups.Logic.TheVariants as logic
use Rattle.hp_ops.specs.declared.groups.Loop.{Loop}
use Rattle.hp_ops.specs.declared.groups.Loop.TheVariants as loop
use Rattle.hp_ops.specs.declared.groups.Registers.{Registers}
use Rattle.hp_ops.specs.declared.groups.Registers.TheVariants as registers
use Rattle.hp_ops.specs.declared.groups.Shift.{Shift}
use Rattle.hp_ops.specs.declared.groups.Shift.TheVariants as shift
use Rattle.hp_ops.specs.declared.groups.Stack.{Stack}
use Rattle.hp_ops.specs.declared.groups.Stack.TheVariants as stack
use Rattle.hp_control.specs.declared.control.Control.{Control}
use Rattle.hp_control.specs.Controls.{size_after}
use Rattle.jd_circuit.specs.Net.{Net}
use Rattle.jd_content.specs.declared.content.SymContent.{SymContent}
use Rattle.jd_operations.specs.Done.{IsDone}

-- the same, where the word size has another name
pub done_at : (a b : Net) (control : Control) (op : Operation) (given : List Bool) (v w : ℕ) (old new : SymContent) → w ≡ v → IsDone a b control op given v old new → IsDone a b control op given w old new
done_at a b control op given v w old new e done = subst (λ u. IsDone a b control op given u old new) (sym e) done

pub stack-size : (op : Stack) (given : List Bool) (w : ℕ) → size_after (of_stack op) given w ≡ w
stack-size stack.Enter given w = refl
stack-size stack.RollDown given w = refl
stack-size stack.RollUp given w = refl
stack-size stack.Exchange given w = refl
stack-size stack.ClearX given w = refl
stack-size stack.LastX given w = refl

pub arithmetic-size : (op : Arithmetic) (given : List Bool) (w : ℕ) → size_after (of_arithmetic op) given w ≡ w
arithmetic-size arithmetic.Add given w = refl
arithmetic-size arithmetic.Subtract given w = refl
arithmetic-size arithmetic.Multiply given w = refl
arithmetic-size arithmetic.Divide given w = refl
arithmetic-size arithmetic.Remainder given w = refl
arithmetic-size arithmetic.ChangeSign given w = refl
arithmetic-size arithmetic.Absolute given w = refl
arithmetic-size arithmetic.SquareRoot given w = refl

pub double-size : (op : Double) (given : List Bool) (w : ℕ) → size_after (of_double op) given w ≡ w
double-size double.Multiply given w = refl
double-size double.Divide given w = refl
double-size double.Remainder given w = refl

pub shift-size : (op : Shift) (given : List Bool) (w : ℕ) → size_after (of_shift op) given w ≡ w
shift-size shift.Left given w = refl
shift-size shift.Right given w = refl
shift-size shift.Arithmetic given w = refl
shift-size shift.Justify given w = refl

pub bits-size : (op : Bits) (given : List Bool) (w : ℕ) → size_after (of_bits op) given w ≡ w
bits-size bits.MaskLeft given w = refl
bits-size bits.MaskRight given w = refl
bits-size bits.CountOnes given w = refl
bits-size bits.Set given w = refl
bits-size bits.Clear given w = refl
bits-size bits.Test given w = refl

pub logic-size : (op : Logic) (given : List Bool) (w : ℕ) → size_after (of_logic op) given w ≡ w
logic-size logic.Not given w = refl
logic-size logic.And given w = refl
logic-size logic.Or given w = refl
logic-size logic.Xor given w = refl

pub loop-size : (op : Loop) (given : List Bool) (w : ℕ) → size_after (of_loop op) given w ≡ w
loop-size loop.Decrement given w = refl
loop-size loop.Increment given w = refl

pub flags-size : (op : Flags) (given : List Bool) (w : ℕ) → size_after (of_flags op) given w ≡ w
flags-size (flags.Set flag) given w = refl
flags-size (flags.Clear flag) given w = refl
flags-size (flags.Test flag) given w = refl

pub registers-size : (op : Registers) (given : List Bool) (w : ℕ) → size_after (of_registers op) given w ≡ w
registers-size (registers.Store to) given w = refl
registers-size (registers.Recall from) given w = refl
registers-size registers.ExchangeIndex given w = refl
registers-size registers.ExchangeThrough given w = refl
registers-size registers.Clear given w = refl
