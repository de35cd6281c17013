use Rattle.std.proofs.Common.{ap, length}
use Rattle.hp_control.specs.Controls.{control_of}
use Rattle.jd_content.proofs.Alone.{alone}
use Rattle.jd_operations.proofs.Sizes.{arithmetic-size, bits-size, done_at, double-size, flags-size, logic-size, loop-size, registers-size, shift-size, stack-size}
use Rattle.jd_operations.proofs.Unchanged.{jump-unchanged, test-unchanged, windows-unchanged}
use Rattle.jd_operations.proofs.operation.change.Goals as goal

pub returns-in-Digit-clause-done : goal.returns-in-Digit-clause-done
returns-in-Digit-clause-done g c = rw c.in-Digit.is (λ listing bounded none.
    let e = c.change_by_digit.ensures in
    alone c.args.c.now (control_of c.args.control.now listing) _ _ _ _ _ (λ val a. e.meaning listing c.args.given.now val) (e.fits _ c.requires.fits) (ap length e.same))

pub returns-in-Stack-clause-done : goal.returns-in-Stack-clause-done
returns-in-Stack-clause-done g c = rw c.in-Stack.is (done_at _ _ c.args.control.now _ _ _ _ _ _ (stack-size c.in-Stack.op c.args.given.now c.args.control.now.size.bits) (λ listing bounded none.
    let e = c.change_stack.ensures in
    alone c.args.c.now (control_of c.args.control.now listing) _ _ _ _ _ (λ val a. e.meaning listing c.args.given.now val) (e.fits _ c.requires.fits) (ap length e.same)))

pub returns-in-Flags-clause-done : goal.returns-in-Flags-clause-done
returns-in-Flags-clause-done g c = rw c.in-Flags.is (done_at _ _ c.args.control.now _ _ _ _ _ _ (flags-size c.in-Flags.op c.args.given.now c.args.control.now.size.bits) (λ listing bounded none.
    let e = c.change_flags.ensures in
    alone c.args.c.now (control_of c.args.control.now listing) _ _ _ _ _ (λ val a. e.meaning (control_of c.args.control.now listing) c.args.given.now val) (e.fits _ _ c.requires.fits) (ap length e.same)))

pub returns-in_ok-change_arithmetic-in-Arithmetic-clause-done : goal.returns-in_ok-change_arithmetic-in-Arithmetic-clause-done
returns-in_ok-change_arithmetic-in-Arithmetic-clause-done g c = rw c.in-Arithmetic.is (done_at _ _ c.args.control.now _ _ _ _ _ _ (arithmetic-size c.in-Arithmetic.op c.args.given.now c.args.control.now.size.bits) (c.in_ok-change_arithmetic-in-Arithmetic.ensures.done c.args.given.now))

pub returns-in_ok-change_double-in-Double-clause-done : goal.returns-in_ok-change_double-in-Double-clause-done
returns-in_ok-change_double-in-Double-clause-done g c = rw c.in-Double.is (done_at _ _ c.args.control.now _ _ _ _ _ _ (double-size c.in-Double.op c.args.given.now c.args.control.now.size.bits) (c.in_ok-change_double-in-Double.ensures.done c.args.given.now))

pub returns-in_ok-change_shift-in-Shift-clause-done : goal.returns-in_ok-change_shift-in-Shift-clause-done
returns-in_ok-change_shift-in-Shift-clause-done g c = rw c.in-Shift.is (done_at _ _ c.args.control.now _ _ _ _ _ _ (shift-size c.in-Shift.op c.args.given.now c.args.control.now.size.bits) (c.in_ok-change_shift-in-Shift.ensures.done c.args.given.now))

pub returns-in_ok-change_bits-in-Bits-clause-done : goal.returns-in_ok-change_bits-in-Bits-clause-done
returns-in_ok-change_bits-in-Bits-clause-done g c = rw c.in-Bits.is (done_at _ _ c.args.control.now _ _ _ _ _ _ (bits-size c.in-Bits.op c.args.given.now c.args.control.now.size.bits) (c.in_ok-change_bits-in-Bits.ensures.done c.args.given.now))

pub returns-in_ok-change_logic-in-Logic-clause-done : goal.returns-in_ok-change_logic-in-Logic-clause-done
returns-in_ok-change_logic-in-Logic-clause-done g c = rw c.in-Logic.is (done_at _ _ c.args.control.now _ _ _ _ _ _ (logic-size c.in-Logic.op c.args.given.now c.args.control.now.size.bits) (c.in_ok-change_logic-in-Logic.ensures.done c.args.given.now))

pub returns-in_ok-change_loop-in-Loop-clause-done : goal.returns-in_ok-change_loop-in-Loop-clause-done
returns-in_ok-change_loop-in-Loop-clause-done g c = rw c.in-Loop.is (done_at _ _ c.args.control.now _ _ _ _ _ _ (loop-size c.in-Loop.op c.args.given.now c.args.control.now.size.bits) (c.in_ok-change_loop-in-Loop.ensures.done c.args.given.now))

pub returns-in_ok-change_rotate_many-in-RotateMany-clause-done : goal.returns-in_ok-change_rotate_many-in-RotateMany-clause-done
returns-in_ok-change_rotate_many-in-RotateMany-clause-done g c = rw c.in-RotateMany.is (c.in_ok-change_rotate_many-in-RotateMany.ensures.done c.args.given.now)

pub returns-in-Rotate-clause-done : goal.returns-in-Rotate-clause-done
returns-in-Rotate-clause-done g c = rw c.in-Rotate.is (c.change_rotate.ensures c.args.c.now c.args.given.now c.requires.fits)

pub returns-in-Registers-clause-done : goal.returns-in-Registers-clause-done
returns-in-Registers-clause-done g c = rw c.in-Registers.is (done_at _ _ c.args.control.now _ _ _ _ _ _ (registers-size c.in-Registers.op c.args.given.now c.args.control.now.size.bits) (c.change_registers.ensures c.args.c.now c.requires.fits))

pub returns-in-Setting-clause-done : goal.returns-in-Setting-clause-done
returns-in-Setting-clause-done g c = rw c.in-Setting.is (c.change_setting.ensures c.args.c.now c.requires.fits)

pub returns-in-Test-clause-done : goal.returns-in-Test-clause-done
returns-in-Test-clause-done g c = rw c.in-Test.is (test-unchanged _ c.args.c.now c.args.control.now c.args.given.now c.args.content.now c.requires.fits)

pub returns-in-Jump-clause-done : goal.returns-in-Jump-clause-done
returns-in-Jump-clause-done g c = rw c.in-Jump.is (jump-unchanged _ c.args.c.now c.args.control.now c.args.given.now c.args.content.now c.requires.fits)

pub returns-in-Windows-clause-done : goal.returns-in-Windows-clause-done
returns-in-Windows-clause-done g c = rw c.in-Windows.is (windows-unchanged _ c.args.c.now c.args.control.now c.args.given.now c.args.content.now c.requires.fits)
