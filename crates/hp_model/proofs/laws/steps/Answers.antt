use Rattle.hp_model.proofs.Kept.{control_step-keeps}
use Rattle.hp_model.proofs.GoesOn.{control_step-goes}
use Rattle.hp_model.proofs.laws.steps.Goals as goal

pub returns : goal.returns
returns c = record {
  bytes_stay = λ c op given. (control_step-keeps c op given).bytes;
  program_stays = λ c op given. (control_step-keeps c op given).program;
  blocks_stay = λ c op given. (control_step-keeps c op given).blocks;
  goes_on = control_step-goes;
}
