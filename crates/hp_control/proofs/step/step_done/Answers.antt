use Rattle.hp_control.proofs.step.step_done.Goals as goal

pub returns-in-Digit : goal.returns-in-Digit
returns-in-Digit g c = rw c.in-Digit.is (c.step_digit.ensures (g.P.Program.listing c.args.program.now) c.args.given.now c.requires.bounds)

pub returns-in-Windows : goal.returns-in-Windows
returns-in-Windows g c = rw c.in-Windows.is (c.step_windows.ensures (g.P.Program.listing c.args.program.now) c.args.given.now c.requires.bounds)

pub returns-in-Registers : goal.returns-in-Registers
returns-in-Registers g c = rw c.in-Registers.is (c.step_registers.ensures (g.P.Program.listing c.args.program.now) c.args.given.now c.requires.bounds (rw c.in-Registers.is at c.requires.no_error))
