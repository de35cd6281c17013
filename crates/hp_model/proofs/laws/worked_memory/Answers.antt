-- The worked steps on memory, each by computing it.
use Rattle.std.proofs.Common.{refl}
use Rattle.hp_model.proofs.laws.worked_memory.Goals as goal

pub returns : goal.returns
returns c = record {
  read_shorter = refl;
  written_shorter = refl;
  lower_nibble = refl;
  upper_nibble = refl;
  lower_byte = refl;
  upper_byte = refl;
  first_byte = (refl, refl);
  second_byte = (refl, refl);
  code_in_its_byte = (refl, refl);
  rest_of_its_block = (refl, refl);
  registers_left = refl;
  given_back = refl;
  registers_back = refl;
  large_registers = (refl, refl);
  large_code = (refl, refl);
  large_registers_left = refl;
  large_last_register = (refl, refl);
}
