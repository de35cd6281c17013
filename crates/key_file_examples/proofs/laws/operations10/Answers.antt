-- Each key file, by computing it. Written by scripts/state_key_files.py.
use Rattle.std.proofs.Common.{refl}
use Rattle.std.specs.Fmt.{digits}
use Rattle.hp_model.specs.Press.{lines_per_key}
use Rattle.key_file_examples.proofs.laws.operations10.Goals as goal

pub returns : goal.returns
unfolding digits lines_per_key
returns c = record {
  case_135_1 = refl;
  case_135_2 = refl;
  case_136_1 = refl;
  case_136_2 = refl;
  case_137_1 = refl;
  case_137_2 = refl;
  case_138_1 = refl;
  case_138_2 = refl;
  case_139_1 = refl;
  case_139_2 = refl;
  case_140_1 = refl;
  case_140_2 = refl;
  case_141_1 = refl;
  case_141_2 = refl;
  case_142_1 = refl;
  case_142_2 = refl;
  case_143_1 = refl;
  case_143_2 = refl;
  case_144_1 = refl;
  case_144_2 = refl;
  case_145_1 = refl;
  case_145_2 = refl;
  case_146_1 = refl;
  case_146_2 = refl;
  case_147_1 = refl;
  case_147_2 = refl;
  case_148_1 = refl;
  case_148_2 = refl;
  case_149_1 = refl;
  case_149_2 = refl;
}
