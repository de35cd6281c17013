use Rattle.hp_core.proofs.Stepped.{stepped_operates, stepped_keeps, stepped_goes, stepped_leaves}
use Rattle.hp_core.proofs.machine.Machine.step.Goals as goal

pub returns-clause-done : goal.returns-clause-done
returns-clause-done c = stepped_operates _ _ _ _ c.operate.ensures

pub returns-clause-lines : goal.returns-clause-lines
returns-clause-lines c = stepped_keeps _ _ _ _ c.operate.ensures

pub returns-clause-going : goal.returns-clause-going
returns-clause-going c = stepped_goes _ _ _ _ c.operate.ensures

pub returns-clause-kept : goal.returns-clause-kept
returns-clause-kept c = stepped_leaves _ _ _ _ c.operate.ensures
