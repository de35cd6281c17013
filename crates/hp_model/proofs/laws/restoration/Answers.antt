use Rattle.hp_model.proofs.Registers.{same_register}
use Rattle.hp_model.proofs.KeptByKeys.{operated_all-nibble, pressed_all-nibble}
use Rattle.hp_model.proofs.laws.restoration.Goals as goal

pub returns : goal.returns
returns c = record {
  over_operations = λ w r done m unwritten. same_register w r _ _ (λ j here. operated_all-nibble done m j (unwritten j here));
  over_keys = λ w r pressed s unwritten. same_register w r _ _ (λ j here. pressed_all-nibble pressed s j (unwritten j here));
}
