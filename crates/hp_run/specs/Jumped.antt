-- A pressed GTO or GSB whose search is over.
use Rattle.hp_model.specs.declared.Stop.TheVariants.{Go, Ended}
use Rattle.hp_model.specs.Operations.{Target}
use Rattle.hp_model.specs.State.{Machine}
use Rattle.hp_model.specs.Run.{Step}
use Rattle.hp_model.specs.Press.{pressed_goto, without_entry}

-- where nothing is found, only digit entry ends
abbrev pub jumped_from : Machine → Step → Machine
jumped_from before s = elim s.stop [ Go ↦ s.machine | Ended end ↦ without_entry before ]

abbrev pub jumped : Target → Machine → Machine
jumped target m = jumped_from m (pressed_goto target m)
