-- Each key file, by computing it. Written by scripts/state_key_files.py.
use Rattle.std.proofs.Common.{refl}
use Rattle.std.specs.Fmt.{digits}
use Rattle.hp_model.specs.Press.{lines_per_key}
use Rattle.key_file_examples.proofs.laws.operations3.Goals as goal

pub returns : goal.returns
unfolding digits lines_per_key
returns c = record {
  case_30_1 = refl;
  case_30_2 = refl;
  case_31_1 = refl;
  case_31_2 = refl;
  case_32_1 = refl;
  case_32_2 = refl;
  case_33_1 = refl;
  case_33_2 = refl;
  case_34_1 = refl;
  case_34_2 = refl;
  case_35_1 = refl;
  case_35_2 = refl;
  case_36_1 = refl;
  case_36_2 = refl;
  case_37_1 = refl;
  case_37_2 = refl;
  case_38_1 = refl;
  case_38_2 = refl;
  case_39_1 = refl;
  case_39_2 = refl;
  case_40_1 = refl;
  case_40_2 = refl;
  case_41_1 = refl;
  case_41_2 = refl;
  case_42_1 = refl;
  case_42_2 = refl;
  case_43_1 = refl;
  case_43_2 = refl;
  case_44_1 = refl;
  case_44_2 = refl;
}
