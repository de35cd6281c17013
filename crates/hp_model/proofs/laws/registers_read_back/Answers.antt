use Rattle.hp_model.proofs.Registers.{read_written}
use Rattle.hp_model.proofs.KeptNibbles.{with_register-outside}
use Rattle.hp_model.proofs.laws.registers_read_back.Goals as goal

pub returns : goal.returns
returns c = record { read_written = read_written; others_stay = with_register-outside }
