use Rattle.std.proofs.Common.{refl, arith}
use Rattle.hp_debug.specs.Laws.{all_states_recorded, after_calls}
use Rattle.hp_debug.proofs.RecordedSince.{since-steps-back}
use Rattle.hp_debug.proofs.StepsBack.{since-calls}
use Rattle.hp_debug.proofs.laws.steps_back_restore.Goals as goal

pub returns : goal.returns
returns c calls d within =
    since-steps-back (all_states_recorded calls d) d.present (after_calls calls d) (since-calls calls (all_states_recorded calls d) 0 d.present d (omega arith) within refl)
