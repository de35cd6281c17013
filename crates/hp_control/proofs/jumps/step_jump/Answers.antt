use Rattle.hp_control.proofs.jumps.step_jump.Goals as goal

pub returns-in-Return : goal.returns-in-Return
returns-in-Return g c = rw c.in-Return.is (c.step_return.ensures (g.P.Program.listing c.args.program.now) c.args.given.now c.requires.bounds)
