-- Each key file, by computing it. Written by scripts/state_key_files.py.
use Rattle.std.proofs.Common.{refl}
use Rattle.std.specs.Fmt.{digits}
use Rattle.hp_model.specs.Press.{lines_per_key}
use Rattle.key_file_examples.proofs.laws.operations7.Goals as goal

pub returns : goal.returns
unfolding digits lines_per_key
returns c = record {
  case_90_1 = refl;
  case_90_2 = refl;
  case_91_1 = refl;
  case_91_2 = refl;
  case_92_1 = refl;
  case_92_2 = refl;
  case_93_1 = refl;
  case_93_2 = refl;
  case_94_1 = refl;
  case_94_2 = refl;
  case_95_1 = refl;
  case_95_2 = refl;
  case_96_1 = refl;
  case_96_2 = refl;
  case_97_1 = refl;
  case_97_2 = refl;
  case_98_1 = refl;
  case_98_2 = refl;
  case_99_1 = refl;
  case_99_2 = refl;
  case_100_1 = refl;
  case_100_2 = refl;
  case_101_1 = refl;
  case_101_2 = refl;
  case_102_1 = refl;
  case_102_2 = refl;
  case_103_1 = refl;
  case_103_2 = refl;
  case_104_1 = refl;
  case_104_2 = refl;
}
