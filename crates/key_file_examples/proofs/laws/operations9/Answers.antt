-- Each key file, by computing it. Written by scripts/state_key_files.py.
use Rattle.std.proofs.Common.{refl}
use Rattle.std.specs.Fmt.{digits}
use Rattle.hp_model.specs.Press.{lines_per_key}
use Rattle.key_file_examples.proofs.laws.operations9.Goals as goal

pub returns : goal.returns
unfolding digits lines_per_key
returns c = record {
  case_120_1 = refl;
  case_120_2 = refl;
  case_121_1 = refl;
  case_121_2 = refl;
  case_122_1 = refl;
  case_122_2 = refl;
  case_123_1 = refl;
  case_123_2 = refl;
  case_124_1 = refl;
  case_124_2 = refl;
  case_125_1 = refl;
  case_125_2 = refl;
  case_126_1 = refl;
  case_126_2 = refl;
  case_127_1 = refl;
  case_127_2 = refl;
  case_128_1 = refl;
  case_128_2 = refl;
  case_129_1 = refl;
  case_129_2 = refl;
  case_130_1 = refl;
  case_130_2 = refl;
  case_131_1 = refl;
  case_131_2 = refl;
  case_132_1 = refl;
  case_132_2 = refl;
  case_133_1 = refl;
  case_133_2 = refl;
  case_134_1 = refl;
  case_134_2 = refl;
}
