-- Each key file, by computing it. Written by scripts/state_key_files.py.
use Rattle.std.proofs.Common.{refl}
use Rattle.std.specs.Fmt.{digits}
use Rattle.hp_model.specs.Press.{lines_per_key}
use Rattle.key_file_examples.proofs.laws.corners4.Goals as goal

pub returns : goal.returns
unfolding digits lines_per_key
returns c = record {
  case_91 = refl;
  case_92 = refl;
  case_93 = refl;
  case_94 = refl;
  case_95 = refl;
  case_96 = refl;
  case_97 = refl;
  case_98 = refl;
  case_99 = refl;
  case_100 = refl;
  case_101 = refl;
  case_102 = refl;
  case_103 = refl;
  case_104 = refl;
  case_105 = refl;
  case_106 = refl;
  case_107 = refl;
  case_108 = refl;
  case_109 = refl;
  case_110 = refl;
  case_111 = refl;
  case_112 = refl;
  case_113 = refl;
  case_114 = refl;
  case_115 = refl;
  case_116 = refl;
  case_117 = refl;
  case_118 = refl;
  case_119 = refl;
  case_120 = refl;
}
