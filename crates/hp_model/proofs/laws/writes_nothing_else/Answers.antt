use Rattle.hp_model.proofs.Registers.{same_register}
use Rattle.hp_model.proofs.KeptByKeys.{pressed_all-nibble}
use Rattle.hp_model.proofs.Unwritten.{writes-none, wrote-none, clearing-inside, all_wrote-none}
use Rattle.hp_model.proofs.laws.writes_nothing_else.Goals as goal

pub returns : goal.returns
returns c = record {
  operations = writes-none;
  keys = wrote-none;
  only_registers = clearing-inside;
  restored = λ w r pressed s none. same_register w r _ _ (λ j here. pressed_all-nibble pressed s j (all_wrote-none pressed s j none));
}
