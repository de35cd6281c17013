-- Each key file, by computing it. Written by scripts/state_key_files.py.
use Rattle.std.proofs.Common.{refl}
use Rattle.std.specs.Fmt.{digits}
use Rattle.hp_model.specs.Press.{lines_per_key}
use Rattle.key_file_examples.proofs.laws.operations8.Goals as goal

pub returns : goal.returns
unfolding digits lines_per_key
returns c = record {
  case_105_1 = refl;
  case_105_2 = refl;
  case_106_1 = refl;
  case_106_2 = refl;
  case_107_1 = refl;
  case_107_2 = refl;
  case_108_1 = refl;
  case_108_2 = refl;
  case_109_1 = refl;
  case_109_2 = refl;
  case_110_1 = refl;
  case_110_2 = refl;
  case_111_1 = refl;
  case_111_2 = refl;
  case_112_1 = refl;
  case_112_2 = refl;
  case_113_1 = refl;
  case_113_2 = refl;
  case_114_1 = refl;
  case_114_2 = refl;
  case_115_1 = refl;
  case_115_2 = refl;
  case_116_1 = refl;
  case_116_2 = refl;
  case_117_1 = refl;
  case_117_2 = refl;
  case_118_1 = refl;
  case_118_2 = refl;
  case_119_1 = refl;
  case_119_2 = refl;
}
