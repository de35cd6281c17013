-- Each key file, by computing it. Written by scripts/state_key_files.py.
use Rattle.std.proofs.Common.{refl}
use Rattle.std.specs.Fmt.{digits}
use Rattle.hp_model.specs.Press.{lines_per_key}
use Rattle.key_file_examples.proofs.laws.operations1.Goals as goal

pub returns : goal.returns
unfolding digits lines_per_key
returns c = record {
  case_0_1 = refl;
  case_0_2 = refl;
  case_1_1 = refl;
  case_1_2 = refl;
  case_2_1 = refl;
  case_2_2 = refl;
  case_3_1 = refl;
  case_3_2 = refl;
  case_4_1 = refl;
  case_4_2 = refl;
  case_5_1 = refl;
  case_5_2 = refl;
  case_6_1 = refl;
  case_6_2 = refl;
  case_7_1 = refl;
  case_7_2 = refl;
  case_8_1 = refl;
  case_8_2 = refl;
  case_9_1 = refl;
  case_9_2 = refl;
  case_10_1 = refl;
  case_10_2 = refl;
  case_11_1 = refl;
  case_11_2 = refl;
  case_12_1 = refl;
  case_12_2 = refl;
  case_13_1 = refl;
  case_13_2 = refl;
  case_14_1 = refl;
  case_14_2 = refl;
}
