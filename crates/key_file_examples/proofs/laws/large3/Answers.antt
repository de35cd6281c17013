-- Each key file, by computing it. Written by scripts/state_key_files.py.
use Rattle.std.proofs.Common.{refl}
use Rattle.std.specs.Fmt.{digits}
use Rattle.hp_model.specs.Press.{lines_per_key}
use Rattle.key_file_examples.proofs.laws.large3.Goals as goal

pub returns : goal.returns
unfolding digits lines_per_key
returns c = record {
  case_61 = refl;
  case_62 = refl;
  case_63 = refl;
  case_64 = refl;
  case_65 = refl;
  case_66 = refl;
  case_67 = refl;
  case_68 = refl;
  case_69 = refl;
  case_70 = refl;
  case_71 = refl;
  case_72 = refl;
  case_73 = refl;
  case_74 = refl;
  case_75 = refl;
  case_76 = refl;
  case_77 = refl;
  case_78 = refl;
  case_79 = refl;
  case_80 = refl;
  case_81 = refl;
  case_82 = refl;
  case_83 = refl;
  case_84 = refl;
  case_85 = refl;
  case_86 = refl;
  case_87 = refl;
  case_88 = refl;
  case_89 = refl;
  case_90 = refl;
}
