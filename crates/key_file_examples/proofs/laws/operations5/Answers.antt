-- Each key file, by computing it. Written by scripts/state_key_files.py.
use Rattle.std.proofs.Common.{refl}
use Rattle.std.specs.Fmt.{digits}
use Rattle.hp_model.specs.Press.{lines_per_key}
use Rattle.key_file_examples.proofs.laws.operations5.Goals as goal

pub returns : goal.returns
unfolding digits lines_per_key
returns c = record {
  case_60_1 = refl;
  case_60_2 = refl;
  case_61_1 = refl;
  case_61_2 = refl;
  case_62_1 = refl;
  case_62_2 = refl;
  case_63_1 = refl;
  case_63_2 = refl;
  case_64_1 = refl;
  case_64_2 = refl;
  case_65_1 = refl;
  case_65_2 = refl;
  case_66_1 = refl;
  case_66_2 = refl;
  case_67_1 = refl;
  case_67_2 = refl;
  case_68_1 = refl;
  case_68_2 = refl;
  case_69_1 = refl;
  case_69_2 = refl;
  case_70_1 = refl;
  case_70_2 = refl;
  case_71_1 = refl;
  case_71_2 = refl;
  case_72_1 = refl;
  case_72_2 = refl;
  case_73_1 = refl;
  case_73_2 = refl;
  case_74_1 = refl;
  case_74_2 = refl;
}
