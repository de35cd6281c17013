-- Each key file, by computing it. Written by scripts/state_key_files.py.
use Rattle.std.proofs.Common.{refl}
use Rattle.std.specs.Fmt.{digits}
use Rattle.hp_model.specs.Press.{lines_per_key}
use Rattle.key_file_examples.proofs.laws.operations4.Goals as goal

pub returns : goal.returns
unfolding digits lines_per_key
returns c = record {
  case_45_1 = refl;
  case_45_2 = refl;
  case_46_1 = refl;
  case_46_2 = refl;
  case_47_1 = refl;
  case_47_2 = refl;
  case_48_1 = refl;
  case_48_2 = refl;
  case_49_1 = refl;
  case_49_2 = refl;
  case_50_1 = refl;
  case_50_2 = refl;
  case_51_1 = refl;
  case_51_2 = refl;
  case_52_1 = refl;
  case_52_2 = refl;
  case_53_1 = refl;
  case_53_2 = refl;
  case_54_1 = refl;
  case_54_2 = refl;
  case_55_1 = refl;
  case_55_2 = refl;
  case_56_1 = refl;
  case_56_2 = refl;
  case_57_1 = refl;
  case_57_2 = refl;
  case_58_1 = refl;
  case_58_2 = refl;
  case_59_1 = refl;
  case_59_2 = refl;
}
