use Rattle.std.proofs.Common.{rules}
use Rattle.hp_model.specs.State.{carry}
use Rattle.hp_core.specs.Machines.{data_of}
use Rattle.hp_core.proofs.shifts.rotated.Goals as goal

pub returns-in-Left-clause-value : goal.returns-in-Left-clause-value
returns-in-Left-clause-value c = let told = c.rl.ensures.value (carry (data_of c.args.machine.now)) in search rules

pub returns-in-Right-clause-value : goal.returns-in-Right-clause-value
returns-in-Right-clause-value c = let told = c.rr.ensures.value (carry (data_of c.args.machine.now)) in search rules
