-- Each key file, by computing it. Written by scripts/state_key_files.py.
use Rattle.std.proofs.Common.{refl}
use Rattle.std.specs.Fmt.{digits}
use Rattle.hp_model.specs.Press.{lines_per_key}
use Rattle.key_file_examples.proofs.laws.operations6.Goals as goal

pub returns : goal.returns
unfolding digits lines_per_key
returns c = record {
  case_75_1 = refl;
  case_75_2 = refl;
  case_76_1 = refl;
  case_76_2 = refl;
  case_77_1 = refl;
  case_77_2 = refl;
  case_78_1 = refl;
  case_78_2 = refl;
  case_79_1 = refl;
  case_79_2 = refl;
  case_80_1 = refl;
  case_80_2 = refl;
  case_81_1 = refl;
  case_81_2 = refl;
  case_82_1 = refl;
  case_82_2 = refl;
  case_83_1 = refl;
  case_83_2 = refl;
  case_84_1 = refl;
  case_84_2 = refl;
  case_85_1 = refl;
  case_85_2 = refl;
  case_86_1 = refl;
  case_86_2 = refl;
  case_87_1 = refl;
  case_87_2 = refl;
  case_88_1 = refl;
  case_88_2 = refl;
  case_89_1 = refl;
  case_89_2 = refl;
}
