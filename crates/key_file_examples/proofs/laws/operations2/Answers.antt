-- Each key file, by computing it. Written by scripts/state_key_files.py.
use Rattle.std.proofs.Common.{refl}
use Rattle.std.specs.Fmt.{digits}
use Rattle.hp_model.specs.Press.{lines_per_key}
use Rattle.key_file_examples.proofs.laws.operations2.Goals as goal

pub returns : goal.returns
unfolding digits lines_per_key
returns c = record {
  case_15_1 = refl;
  case_15_2 = refl;
  case_16_1 = refl;
  case_16_2 = refl;
  case_17_1 = refl;
  case_17_2 = refl;
  case_18_1 = refl;
  case_18_2 = refl;
  case_19_1 = refl;
  case_19_2 = refl;
  case_20_1 = refl;
  case_20_2 = refl;
  case_21_1 = refl;
  case_21_2 = refl;
  case_22_1 = refl;
  case_22_2 = refl;
  case_23_1 = refl;
  case_23_2 = refl;
  case_24_1 = refl;
  case_24_2 = refl;
  case_25_1 = refl;
  case_25_2 = refl;
  case_26_1 = refl;
  case_26_2 = refl;
  case_27_1 = refl;
  case_27_2 = refl;
  case_28_1 = refl;
  case_28_2 = refl;
  case_29_1 = refl;
  case_29_2 = refl;
}
